use Rattle.std.proofs.Common.{◌≤◌, ◌-◌, Result, Ok, Err, OnOk, arith}
use Rattle.cubit_base.specs.Command.{weight_of}
use Rattle.refresh_streams.specs.declared.stop.ScriptStop.{ScriptStop}
use Rattle.refresh_streams.proofs.Makes.{GoesOn-more}
use Rattle.refresh_streams.proofs.reader.Reading.add_line.Goals as goal

OnOk-then : {P Q : Type 0} (r : Result (Unit {0}) ScriptStop) → (P → Q) → OnOk r P → OnOk r Q
OnOk-then (Ok done) more is = more is
OnOk-then (Err e) more is = tt

pub returns-in-Ok-One-clause-goes_on : goal.returns-in-Ok-One-clause-goes_on
returns-in-Ok-One-clause-goes_on g c =
    let light : 1 - weight_of c.in-Ok-One.command ≤ 1 = omega arith in
    OnOk-then c.add.result (GoesOn-more (1 - weight_of c.in-Ok-One.command) 1 c.args.self.now c.add.new.self light)
    c.add.ensures.goes_on
