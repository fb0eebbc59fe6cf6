use Rattle.std.proofs.Common.{take}
use Rattle.log_core.proofs.Tables.{rows-appended}
use Rattle.log_core.proofs.machine.Core.rows_with.Goals as goal

pub returns : goal.returns
returns c =
    let core = c.args.self.now in
    rows-appended c.deltas.ensures.count core.terms.limits.row_limit core.terms.base
    (take c.args.place core.chain.history) c.args.delta.now c.rows_behind.result c.rows_added.result
    c.requires.lawful c.rows_behind.ensures.value c.rows_added.ensures.value
