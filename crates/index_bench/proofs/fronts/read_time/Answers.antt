use Rattle.column_bins.specs.declared.column.Column.TheVariants.{Qty}
use Rattle.index_bench.proofs.fronts.read_time.Goals as goal

pub stretch-requires-clause-planned : goal.stretch-requires-clause-planned
stretch-requires-clause-planned g c bin has =
    c.units.ensures.bins c.args.taken.now.plan c.args.taken.now.pages Qty _ bin c.requires.planned has
