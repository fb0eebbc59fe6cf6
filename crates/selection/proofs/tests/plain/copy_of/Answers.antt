use Rattle.std.proofs.Common.{◌∙◌, ◌++◌, [], ◌∷◌, ap, sym}
use Rattle.selection.proofs.Copying.{take-get}
use Rattle.selection.proofs.tests.plain.copy_of.Goals as goal

pub loop-n-preserved : goal.loop-n-preserved
loop-n-preserved c =
    c.in_ok-push.ensures.ok ∙ ap (λ rows. rows ++ c.unwrap-key.result ∷ []) c.loop-n.invariant
    ∙ sym (take-get c.args.table.now c.loop-n.n c.unwrap-key.result (sym c.row.ensures ∙ c.unwrap-key.ensures))
