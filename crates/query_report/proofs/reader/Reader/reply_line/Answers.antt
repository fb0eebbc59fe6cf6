use Rattle.std.proofs.Common.{ℕ, codes, subst}
use Rattle.query_report.specs.Field.{field}
use Rattle.query_report.specs.Reading.{Passes, EndsNumber}
use Rattle.query_report.proofs.Workers.{line-reads}
use Rattle.query_report.proofs.reader.Reader.reply_line.Goals as goal

pub returns : goal.returns
returns c =
    let head = subst (λ (worker : ℕ). Passes (field (codes "w") worker) EndsNumber c.args.self.now c.exactly.new.self)
    c.from.ensures c.exactly.ensures in
    line-reads c.args.worker c.args.number head c.exactly-2.ensures c.label.ensures c.in_ok-reply.ensures c.end_line.ensures
