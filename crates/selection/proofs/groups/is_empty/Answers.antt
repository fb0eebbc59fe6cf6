use Rattle.std.proofs.Common.{◌≡◌, ◌/◌, ◌%◌, ◌∙◌, get_or, ap, arith, inl, inr}
use Rattle.std.proofs.lemmas.Bool.{cases_lt, eqb-true}
use Rattle.std.proofs.lemmas.Nat.{le_or_l, le_or_r}
use Rattle.wah_words.specs.Group.{group_row}
use Rattle.selection.proofs.RowBits.{row-of-none, row-past}
use Rattle.selection.proofs.groups.is_empty.Goals as goal

pub loop-group-preserved : goal.loop-group-preserved
loop-group-preserved c none k within =
    let some = c.loop-group.some in
    let group = get_or c.args.groups.now c.loop-group.group-index 0 in
    elim (cases_lt k c.loop-group.group-index) [
      | inl before ↦ c.loop-group.invariant (omega (arith, none, le_or_l some group)) k before
      | inr last ↦
          let here : k ≡ c.loop-group.group-index = omega (arith, within, last) in
          ap (λ n. get_or c.args.groups.now n 0) here ∙ omega (arith, none, le_or_r some group)
    ]

pub returns : goal.returns
returns c empty row =
    let none : c.loop-group.some ≡ 0 = eqb-true c.loop-group.some 0 empty in
    elim (cases_lt (row / 31) c.loop-group.group-index) [
      | inl within ↦ ap (λ group. group_row group (row % 31)) (c.loop-group.invariant none (row / 31) within)
          ∙ row-of-none (row % 31)
      | inr past ↦ row-past c.args.groups.now row (omega (arith, past, c.loop-group-test.false))
    ]
