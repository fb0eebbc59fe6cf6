use Rattle.std.proofs.Common.{◌≡◌, [], ◌∷◌, ◌++◌, slice_get, Some}
use Rattle.cubit_base.specs.Table.{Row}
use Rattle.log_core.proofs.Tables.{copied-next}
use Rattle.log_core.proofs.machine.copied.Goals as goal

pub loop-n-preserved : goal.loop-n-preserved
loop-n-preserved c =
    let row : Row = (c.in-Some.key, c.in-Some.tuple) in
    let longer : c.push.new.self ≡ c.loop-n.copy ++ row ∷ [] = cc c.in_ok-push.ensures.ok in
    let at : slice_get c.args.table.now c.loop-n.n ≡ Some row = cc in
    copied-next c.args.table.now c.loop-n.copy c.push.new.self c.loop-n.n row c.loop-n.invariant at longer
