use Rattle.std.proofs.Common.{◌∙◌, ◌++◌, [], ◌∷◌, ap, sym, map, take}
use Rattle.std.proofs.lemmas.List.{map-append}
use Rattle.unit_version.specs.Content.{is_in_bins}
use Rattle.selection.proofs.Copying.{take-get}
use Rattle.selection.proofs.tests.moves.rows_in.Goals as goal

pub loop-n-preserved : goal.loop-n-preserved
loop-n-preserved c =
    let test = is_in_bins c.args.column c.args.stretch in
    let row = c.unwrap-tuple.result in
    c.in_ok-push.ensures.items ∙ ap (λ rows. rows ++ c.has_bin.result ∷ []) c.loop-n.invariant
    ∙ ap (λ b. map test (take c.loop-n.n c.args.table.now) ++ b ∷ []) (c.has_bin.ensures row.0)
    ∙ sym (ap (map test) (take-get c.args.table.now c.loop-n.n row (sym c.row.ensures ∙ c.unwrap-tuple.ensures))
    ∙ map-append test (take c.loop-n.n c.args.table.now) (row ∷ []))
