use Rattle.cubit_cli.specs.Words.{drill_value}
use Rattle.cubit_cli.proofs.Sessions.{IsDrillText-made}
use Rattle.cubit_cli.proofs.drill.drilled.Goals as goal

pub returns : goal.returns
returns c =
    let outcome = c.in_ok-outcome.outcome in
    let sum = c.last_sum-front.result in
    IsDrillText-made (drill_value c.args.drill.now) c.in_ok-table.table c.in_ok-table.script c.default_limits.result
    outcome.replies outcome.journal c.len-base.result c.len.result sum.0 sum.1 sum.2 c.last_sum-front.ensures.0
    c.in_ok-text.text.items c.in_ok-table.ensures.value c.default_limits.ensures c.in_ok-outcome.ensures
    c.last_sum-front.ensures.1 c.len-base.ensures.value c.len.ensures c.in_ok-text.ensures
