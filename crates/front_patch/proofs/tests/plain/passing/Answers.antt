use Rattle.std.proofs.Common.{◌≡◌, ◌+◌, ◌∙◌, ◌++◌, [], ◌∷◌, ap, sym, take, List}
use Rattle.std.proofs.lemmas.List.{map-append}
use Rattle.cubit_base.specs.Table.{Row}
use Rattle.front_patch.specs.Bits.{bits_by, passes}
use Rattle.front_patch.proofs.Slots.{take-get}
use Rattle.front_patch.proofs.tests.plain.passing.Goals as goal

pub loop-n-preserved : goal.loop-n-preserved
loop-n-preserved c =
    let n = c.loop-n.n in
    let row = c.unwrap-tuple.result in
    c.in_ok-push.ensures.items ∙ ap (λ rows. rows ++ c.passes.result ∷ []) c.loop-n.invariant
    ∙ ap (λ b. bits_by c.args.test (take n c.args.table.now) ++ b ∷ []) c.passes.ensures
    ∙ sym (ap (bits_by c.args.test) (take-get c.args.table.now n row (sym c.row.ensures ∙ c.unwrap-tuple.ensures))
    ∙ map-append (λ (r : Row). passes c.args.test r.1) (take n c.args.table.now) (row ∷ []))
