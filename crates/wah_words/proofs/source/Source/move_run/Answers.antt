use Rattle.std.proofs.Common.{◌++◌, List, ℕ, arith, refl, replicate, subst}
use Rattle.wah_words.specs.Moves.{Moves}
use Rattle.wah_words.specs.Source.{source_left}
use Rattle.wah_words.specs.Word.{groups}
use Rattle.wah_words.proofs.Moves.{moves_run}
use Rattle.wah_words.proofs.source.Source.move_run.Goals as goal

pub returns-clause-moved : goal.returns-clause-moved
returns-clause-moved c =
    let source = c.refill.new.self in
    let out = c.args.out.now in
    let count = c.min-count.result in
    subst (λ (left : List ℕ). Moves out left c.push_run.new.self (source_left c.skip.new.self) count)
    c.refill.ensures.same
    (moves_run out (source_left source) (groups source.words.now ++ replicate source.false_groups 0)
    c.push_run.new.self (source_left c.skip.new.self) source.run.group source.run.count count
    (omega arith) refl c.in_ok-push_run.ensures.ok c.skip.ensures)
