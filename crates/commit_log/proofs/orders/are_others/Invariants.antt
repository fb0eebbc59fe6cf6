use Rattle.std.proofs.Common.{◌↔◌, IsTrue}
use Rattle.commit_log.specs.Column.{HasNoOrder}
use Rattle.commit_log.proofs.orders.are_others.Given as goal

abbrev pub invariant-loop-other : goal.invariant-loop-other
invariant-loop-other l = IsTrue l.others ↔ HasNoOrder l.block l.order 0 l.other-index
