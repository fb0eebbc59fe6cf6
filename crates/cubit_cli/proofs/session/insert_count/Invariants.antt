use Rattle.std.proofs.Common.{◌≡◌, ◌≤◌, take}
use Rattle.std.specs.Prelude.{sum_by}
use Rattle.cubit_cli.specs.Reply.{rows_added}
use Rattle.cubit_cli.proofs.session.insert_count.Given as goal

abbrev pub invariant-loop-n : goal.invariant-loop-n
invariant-loop-n l = (l.count ≡ sum_by rows_added (take l.n l.script)) × (l.count ≤ l.n)
