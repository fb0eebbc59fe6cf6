use Rattle.refresh_streams.specs.Generator.{everything}
use Rattle.cubit_cli.proofs.Sessions.{IsSession-sum}
use Rattle.cubit_cli.proofs.drill.ends_in_sum.Goals as goal

pub returns : goal.returns
returns c limits table commands replies journal session =
    IsSession-sum limits table commands everything replies journal session
