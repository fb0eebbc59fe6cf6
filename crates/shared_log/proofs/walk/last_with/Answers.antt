use Rattle.shared_log.proofs.Walking.{latest-here, latest-past, same-key, other-key}
use Rattle.shared_log.proofs.walk.last_with.Goals as goal

pub returns-then-eq : goal.returns-then-eq
returns-then-eq c terms log from place low is old =
    latest-here terms log c.args.key.now from place c.args.entry is low
    (same-key c.args.entry.delta.key c.args.key.now c.if-eq.ensures)

pub returns-else-eq : goal.returns-else-eq
returns-else-eq c terms log from place low is old =
    latest-past terms log c.args.key.now from place c.args.entry c.args.latest is
    (other-key c.args.entry.delta.key c.args.key.now c.if-eq.ensures) old
