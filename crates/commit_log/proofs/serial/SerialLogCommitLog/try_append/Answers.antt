use Rattle.std.proofs.Common.{◌≡◌, length, ap, arith}
use Rattle.cubit_base.specs.declared.entry.Limits.{Limits}
use Rattle.commit_log.specs.Serial.{serial_terms}
use Rattle.commit_log.proofs.Appending.{appended}
use Rattle.commit_log.proofs.serial.SerialLogCommitLog.try_append.Goals as goal

pub returns-clause-append : goal.returns-clause-append
returns-clause-append g c =
    let terms = serial_terms g.S.Setup.base g.S.Setup.limits in
    let within = c.requires.at.within in
    let whole = c.whole-whole.ensures.whole.whole in
    let most = c.whole-whole.ensures.log.within in
    let late = c.if-at-whole.false in
    let last : c.args.at.now.len ≡ length c.args.self.now.seen = omega arith in
    let full = c.if-at-self.false in
    let limit = ap (λ (x : Limits). x.log_limit) c.self.invariant.0.limits_are in
    appended terms c.args.self.now c.add.new.self c.args.at.now c.whole.result c.args.delta.now (omega arith) last
    c.add.ensures c.requires.author c.whole.ensures.whole
