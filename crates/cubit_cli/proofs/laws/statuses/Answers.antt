use Rattle.std.proofs.Common.{sym}
use Rattle.cubit_cli.specs.Words.{Drill}
use Rattle.cubit_cli.proofs.Endings.{IsReply-told, Ends-usage, Ends-trouble, Ends-complete, Ends-took, Ends-drill}
use Rattle.cubit_cli.proofs.laws.statuses.Goals as goal

pub returns-clause-usage : goal.returns-clause-usage
returns-clause-usage c words before after status call = rw call.has_status (Ends-usage _ _ _ _ _ call.ending call.ends)

pub returns-clause-trouble : goal.returns-clause-trouble
returns-clause-trouble c words before after status asked contents trouble call is_asked told in_way =
    let ends = rw is_asked at call.ends in
    rw call.has_status
    (Ends-trouble asked contents before.files after.files before.out after.out told trouble call.ending in_way ends)

pub returns-clause-complete : goal.returns-clause-complete
returns-clause-complete c words before after status asked contents call is_asked told files_well out_well =
    let ends = rw is_asked at call.ends in
    rw call.has_status
    (Ends-complete asked contents before.files after.files before.out after.out told call.ending files_well out_well
    ends)

pub returns-clause-written : goal.returns-clause-written
returns-clause-written c words before after asked contents call is_asked told =
    let ends = rw is_asked at call.ends in
    let took = Ends-took asked before.files after.files before.out after.out call.ending (sym call.has_status) ends in
    (took.0, IsReply-told asked contents before.files.held took.0 told took.1, took.2)

pub returns-clause-drill : goal.returns-clause-drill
returns-clause-drill c words before after status drill call is_asked =
    let ends = rw is_asked at call.ends in
    rw call.has_status (Ends-drill drill before.files after.files before.out after.out call.ending ends)

pub returns-clause-drilled : goal.returns-clause-drilled
returns-clause-drilled c words before after drill call is_asked =
    let ends = rw is_asked at call.ends in
    Ends-took (Drill drill) before.files after.files before.out after.out call.ending (sym call.has_status) ends
