use Rattle.std.proofs.Common.{drop, sym}
use Rattle.std.proofs.lemmas.List.{take-append-drop}
use Rattle.commit_log.proofs.serial.SerialLogCommitLog.meet.Goals as goal

pub returns-clause-met : goal.returns-clause-met
returns-clause-met g c =
    (drop c.args.date.len c.args.self.now.seen, sym (take-append-drop c.args.date.len c.args.self.now.seen))
