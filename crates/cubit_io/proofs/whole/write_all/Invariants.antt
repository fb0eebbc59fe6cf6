use Rattle.std.proofs.Common.{◌≡◌, ◌≤◌, ◌-◌, [], length, take}
use Rattle.cubit_io.specs.Pieces.{GrewBy}
use Rattle.cubit_io.proofs.whole.write_all.Given as goal

abbrev pub invariant-loop-done : goal.invariant-loop-done
invariant-loop-done g l = record {
  within : l.done ≤ length l.bytes;
  grew : GrewBy (g.S.Sink.taken l.fn.sink) (g.S.Sink.taken l.sink) (take l.done l.bytes);
  nothing : l.bytes ≡ [] → l.sink ≡ l.fn.sink;
  counted : g.S.Sink.faults l.fn.sink ≤ g.S.Sink.faults l.sink;
}

abbrev pub decreases-loop-done : goal.decreases-loop-done
decreases-loop-done g l = length l.bytes - l.done
