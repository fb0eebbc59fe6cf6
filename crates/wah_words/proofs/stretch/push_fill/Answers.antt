use Rattle.std.proofs.Common.{◌≡◌, ◌+◌, ◌∙◌, [], sym, ap, arith, refl, replicate, subst}
use Rattle.std.specs.Prelude.{bit_and}
use Rattle.std.proofs.lemmas.Nat.{and_mask}
use Rattle.std.proofs.lemmas.List.{append-nil}
use Rattle.wah_words.specs.Pages.{Writes}
use Rattle.wah_words.specs.Word.{run_count, run_group}
use Rattle.wah_words.proofs.Words.{run_count-fill, run_group-grown}
use Rattle.wah_words.proofs.Stretches.{writes_longer}
use Rattle.wah_words.proofs.stretch.push_fill.Goals as goal

pub returns-then-joins-clause-extends : goal.returns-then-joins-clause-extends
returns-then-joins-clause-extends c =
    let run = c.args.run in
    let fill = c.args.fill in
    let joined = c.if-joins.ensures.0 refl in
    let count : run_count fill ≡ bit_and fill 1073741823 =
    run_count-fill fill joined.1 ∙ sym (and_mask fill 30) in
    record {
      written = [];
      is = sym (append-nil c.args.words.now.items);
      writes = subst (λ n. Writes run (replicate (run_count fill) (run_group fill)) [] (run + n)) count
          (writes_longer run (run_group fill) (run_count fill) joined.0 joined.2 c.requires.room);
      fill = λ _.
          (omega (arith, joined.0), omega (arith, joined.0, count, c.requires.room, c.requires.some));
    }

pub returns-then-joins-clause-group : goal.returns-then-joins-clause-group
returns-then-joins-clause-group c =
    let run = c.args.run in
    let fill = c.args.fill in
    let joined = c.if-joins.ensures.0 refl in
    let count : run_count fill ≡ bit_and fill 1073741823 =
    run_count-fill fill joined.1 ∙ sym (and_mask fill 30) in
    ap (λ n. run_group (run + n)) (sym count)
    ∙ run_group-grown run (run_count fill) joined.0 c.requires.room
    ∙ joined.2

pub push_apart-requires-clause-apart : goal.push_apart-requires-clause-apart
push_apart-requires-clause-apart c = λ before here same. let joined = c.joins.ensures.1 (before, here, same) in cc
