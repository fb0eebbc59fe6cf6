use Rattle.commit_log.proofs.Searching.{last-entry}
use Rattle.commit_log.proofs.serial.SerialLogCommitLog.latest.Goals as goal

pub returns-clause-latest : goal.returns-clause-latest
returns-clause-latest g c =
    last-entry _ c.args.self.now.seen c.args.key.now c.args.from.now.len c.args.to.now.len c.in_ok-place.place
    c.entry.result c.entry.ensures c.in_ok-place.ensures.some
