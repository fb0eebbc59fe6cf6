use Rattle.std.proofs.Common.{◌≡◌, ◌∙◌, ap, sym, subst, arith, length, drop, take, false, ℕ}
use Rattle.std.specs.Prelude.{All}
use Rattle.wah_words.specs.Group.{group_count, unpacked}
use Rattle.wah_words.proofs.Spelled.{IsExtended, held-extended, length-extended, length-held, padding_held, rows_held, length-spelled_rows}
use Rattle.wah_words.proofs.wah.Wah.extended.Goals as goal

pub overflow_sub-more : goal.overflow_sub-more
overflow_sub-more c =
    omega (
      arith,
      c.requires,
      ap length c.self.view_is,
      length-spelled_rows c.self.inside.words.items c.self.inside.rows c.self.invariant,
      c.group_count.ensures,
      c.group_count-2.ensures,
    )

made : (c : goal.In_ok-push_false)
    → IsExtended c.self.inside.words.items c.self.inside.rows c.args.self.now c.args.rows c.push_false.new.self
made c = record {
  canonical = c.self.invariant;
  list_is = c.self.view_is;
  within = c.requires;
  out_is = cc (
    c.in_ok-push_false.ensures.ok,
    c.in_ok-groups.ensures,
    c.deref.ensures.value,
    c.group_count.ensures,
    c.group_count-2.ensures,
  );
}

pub of_groups-requires-clause-size : goal.of_groups-requires-clause-size
of_groups-requires-clause-size c = length-held _ _ (held-extended _ _ _ _ _ (made c))
    ∙ ap group_count (length-extended _ _ _ _ _ (made c))

pub of_groups-requires-clause-padding : goal.of_groups-requires-clause-padding
of_groups-requires-clause-padding c =
    let P : ℕ → Type 0 = λ n. All (λ row. row ≡ false) (drop n (unpacked c.push_false.new.self)) in
    subst P (length-extended _ _ _ _ _ (made c)) (padding_held _ _ (held-extended _ _ _ _ _ (made c)))

pub returns : goal.returns
returns c =
    let made : IsExtended c.self.inside.words.items c.self.inside.rows c.args.self.now c.args.rows
    c.push_false.new.self = record {
      canonical = c.self.invariant;
      list_is = c.self.view_is;
      within = c.requires;
      out_is = cc (
        c.in_ok-push_false.ensures.ok,
        c.in_ok-groups.ensures,
        c.deref.ensures.value,
        c.group_count.ensures,
        c.group_count-2.ensures,
      );
    } in
    c.of_groups.ensures
    ∙ ap (λ n. take n (unpacked c.push_false.new.self)) (sym (length-extended _ _ _ _ _ made))
    ∙ rows_held _ _ (held-extended _ _ _ _ _ made)
