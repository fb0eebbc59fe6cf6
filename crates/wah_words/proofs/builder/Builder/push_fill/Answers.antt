use Rattle.std.proofs.Common.{◌≡◌, ◌-◌, ◌++◌, ◌∷◌, [], ◌∙◌, refl, ap, arith, replicate, vec_len}
use Rattle.wah_words.specs.Word.{groups}
use Rattle.wah_words.specs.Group.{filled}
use Rattle.wah_words.specs.Canonical.{AreRuns}
use Rattle.wah_words.proofs.Words.{groups-push, groups-set_last, AreRuns-set_last, AreRuns-push_fill, MayGrow, last_room, set_last_same}
use Rattle.wah_words.proofs.builder.Builder.push_fill.Goals as goal
use Rattle.wah_words.proofs.builder.Builder.push_fill.Goals.{in-Some+else-joins, in_default}

pub overflow_add-last : goal.overflow_add-last
overflow_add-last c =
    let joined = c.if-joins.ensures.0 refl in
    let may : MayGrow c.self.inside.words.items
    (vec_len c.self.inside.words) c.in-Some.last.now c.fill_word-word.result c.args.count =
    record {
      long = omega arith;
      some = c.in-Some.ensures.variant.0 refl;
      is = c.in-Some.ensures.value;
      above = joined.0;
      same = joined.2;
      room = rw (← c.self.view_is) at c.requires.room;
    } in
    omega (arith, last_room _ _ _ _ _ may)

pub invariant_of-self : goal.invariant_of-self
invariant_of-self c =
    let joined = c.if-joins.ensures.0 refl in
    let may : MayGrow c.self.inside.words.items
    (vec_len c.self.inside.words) c.in-Some.last.now c.fill_word-word.result c.args.count =
    record {
      long = omega arith;
      some = c.in-Some.ensures.variant.0 refl;
      is = c.in-Some.ensures.value;
      above = joined.0;
      same = joined.2;
      room = rw (← c.self.view_is) at c.requires.room;
    } in
    AreRuns-set_last _ _ _ _ _ may c.self.invariant

pub returns-then-joins-clause-ok : goal.returns-then-joins-clause-ok
returns-then-joins-clause-ok c =
    let joined = c.if-joins.ensures.0 refl in
    let may : MayGrow c.self.inside.words.items
    (vec_len c.self.inside.words) c.in-Some.last.now c.fill_word-word.result c.args.count =
    record {
      long = omega arith;
      some = c.in-Some.ensures.variant.0 refl;
      is = c.in-Some.ensures.value;
      above = joined.0;
      same = joined.2;
      room = rw (← c.self.view_is) at c.requires.room;
    } in
    let grown = groups-set_last _ _ _ _ _ may in
    rw (← c.self.view_is, ← c.fill_word-word.ensures.group) grown

same_words : (c : goal.In_ok-push) → c.match-last_mut.self-inside.words.items ≡ c.self.inside.words.items
same_words c =
    elim c.match-last_mut.branch [
      | in-Some+else-joins w ↦
          ap (λ fields. fields.words.items) w.self-inside-is
          ∙ set_last_same c.self.inside.words.items
          (vec_len c.self.inside.words - 1) w.in-Some.last.now w.in-Some.ensures.value
      | in_default w ↦ ap (λ fields. fields.words.items) w.self-inside-is
    ]

pub invariant_of-self-2 : goal.invariant_of-self-2
invariant_of-self-2 c =
    let pushed : AreRuns (c.self.inside.words.items ++ c.fill_word-word.result ∷ []) =
    AreRuns-push_fill c.self.inside.words.items (vec_len c.self.inside.words) c.fill_word-word.result
    (omega arith) c.self.invariant c.fill_word-word.ensures.fill (omega arith)
    (elim c.match-last_mut.branch [
      | in-Some+else-joins w ↦ λ _. (
        w.in-Some.last.now,
        w.in-Some.ensures.value,
        λ above here same. let joined = w.if-joins.ensures.1 (above, here, same) in cc,
      )
      | in_default w ↦ λ some. absurd (let t = c.last_mut.ensures.variant.1 some in
          let n = w.in_default.ensures.variant.1 some in cc)
    ]) in
    rw (c.in_ok-push.ensures.items, same_words c) pushed

pub returns-clause-ok : goal.returns-clause-ok
returns-clause-ok c =
    ap groups (c.in_ok-push.ensures.items ∙ ap (λ front. front ++ c.fill_word-word.result ∷ []) (same_words c))
    ∙ groups-push c.self.inside.words.items c.fill_word-word.result
    ∙ (rw (c.fill_word-word.ensures.count, c.fill_word-word.ensures.group)
    (ap (λ front. front ++ replicate c.args.count (filled c.args.value)) c.self.view_is))
