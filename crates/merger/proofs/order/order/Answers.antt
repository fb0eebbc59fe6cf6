use Rattle.merger.proofs.Ordered.{order-at, order-within, at-order}
use Rattle.merger.proofs.order.order.Goals as goal

pub returns-clause-place : goal.returns-clause-place
returns-clause-place c = order-at

pub returns-clause-within : goal.returns-clause-within
returns-clause-within c = order-within

pub returns-clause-unit : goal.returns-clause-unit
returns-clause-unit c = at-order
