use Rattle.std.proofs.Common.{◌≡◌, ◌-◌, ◌∙◌, ap, sym, arith, replicate, map, not, ◌++◌, ◌∷◌, []}
use Rattle.std.proofs.lemmas.List.{append-nil}
use Rattle.wah_words.specs.Group.{unpacked, group_rows}
use Rattle.wah_words.specs.Word.{run_group, run_count}
use Rattle.wah_words.specs.Rows.{cleared}
use Rattle.wah_words.proofs.Words.{some_run}
use Rattle.wah_words.proofs.Pointwise.{unpacked-turned, unpacked-last_cleared}
use Rattle.wah_words.proofs.complement.push_last_complement.Goals as goal
use Rattle.wah_words.proofs.complement.push_last_complement.Goals.{then-run-gt1+in_ok-push_run, else-run-gt1}

pub returns : goal.returns
returns c =
    let g = c.complement-run.result.group in
    let some = some_run c.args.last c.requires.fill in
    let before : c.if-run-gt1.out ≡ c.args.out.now ++ replicate (run_count c.args.last - 1) g =
    elim c.if-run-gt1.branch [
      | then-run-gt1+in_ok-push_run w ↦
          w.out-is ∙ w.in_ok-push_run.ensures.ok
          ∙ ap (λ n. c.args.out.now ++ replicate (n - 1) g) (c.complement-run.ensures.count ∙ c.of_word.ensures.count)
      | else-run-gt1 w ↦
          let none : run_count c.args.last - 1 ≡ 0 =
          omega (arith, c.complement-run.ensures.count, c.of_word.ensures.count) in
          w.out-is ∙ sym (append-nil c.args.out.now) ∙ ap (λ n. c.args.out.now ++ replicate n g) (sym none)
    ] in
    let turned : group_rows g ≡ map not (group_rows (run_group c.args.last)) =
    rw c.of_word.ensures.group at c.complement-run.ensures.rows in
    ap unpacked (c.in_ok-push_group.ensures.ok ∙ ap (λ front. front ++ c.first_rows.result ∷ []) before)
    ∙ unpacked-last_cleared c.args.out.now
    (run_count c.args.last) g c.first_rows.result c.args.rows some c.requires.some c.requires.size
    c.first_rows.ensures.rows
    ∙ ap (λ rows. cleared c.args.rows (unpacked c.args.out.now ++ rows))
    (unpacked-turned (run_count c.args.last) g (run_group c.args.last) turned)
