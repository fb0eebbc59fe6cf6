use Rattle.std.proofs.Common.{ℕ, sym, subst, set, get_or, arith, List, replicate, ap, ◌∙◌}
use Rattle.std.specs.Prelude.{bit_or}
use Rattle.wah_words.specs.Word.{run_count, run_group}
use Rattle.fence_window.specs.Ors.{OrsAt}
use Rattle.fence_window.proofs.Ors.{ors_past, ors_run-set, plain_run}
use Rattle.fence_window.proofs.Blocks.{word_groups-run}
use Rattle.fence_window.proofs.place.or_word.Goals as goal
use Rattle.fence_window.proofs.place.or_word.Goals.{then-at-out, else-at-out}

pub returns-then-word-ge-TRUE_FILL-clause-part : goal.returns-then-word-ge-TRUE_FILL-clause-part
returns-then-word-ge-TRUE_FILL-clause-part c =
    subst (OrsAt c.args.out.now c.or_run.new.out c.args.at)
    (ap (λ n. replicate n c.of_word-run.result.group) c.of_word-run.ensures.count
    ∙ ap (replicate (run_count c.args.word)) c.of_word-run.ensures.group
    ∙ sym (word_groups-run c.args.word)) c.or_run.ensures.part

pub returns-clause-part : goal.returns-clause-part
returns-clause-part c =
    let out = c.args.out.now in
    let at = c.args.at in
    let word = c.args.word in
    let run = replicate (run_count word) (run_group word) in
    subst (OrsAt out c.if-at-out.out at) (sym (word_groups-run word))
    (elim c.if-at-out.branch [
      | then-at-out w ↦
          let P = λ (group : ℕ). OrsAt out (set out at (bit_or (get_or out at 0) group)) at run in
          subst (λ (new : List ℕ). OrsAt out new at run) (sym w.out-is)
          (subst P (sym c.of_word-run.ensures.group)
          (ors_run-set out at (run_count word) (run_group word) w.if-at-out.true
          (plain_run word (omega (arith, c.if-word-ge-TRUE_FILL.false)))))
      | else-at-out w ↦
          subst (λ (new : List ℕ). OrsAt out new at run) (sym w.out-is)
          (ors_past out at run (omega (arith, w.if-at-out.false)))
    ])
