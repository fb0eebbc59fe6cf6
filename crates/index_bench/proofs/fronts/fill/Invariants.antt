use Rattle.std.proofs.Common.{◌≡◌, ◌+◌, ◌≤◌}
use Rattle.cubit_base.specs.History.{after}
use Rattle.commit_log.specs.Log.{IsWhole}
use Rattle.commit_log.specs.Serial.{serial_terms}
use Rattle.index_bench.proofs.fronts.fill.Given as goal

abbrev pub invariant-loop-i : goal.invariant-loop-i
invariant-loop-i g l = record {
  whole : IsWhole (serial_terms g.S.Setup.base g.S.Setup.limits) l.log.seen l.at;
  rows : l.now.items ≡ after g.S.Setup.base l.log.seen;
  room : l.fn.count ≤ l.log.spare + l._i;
}
