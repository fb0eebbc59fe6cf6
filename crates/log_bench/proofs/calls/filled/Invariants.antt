use Rattle.std.proofs.Common.{◌≡◌, ◌+◌, ◌≤◌, take, slice_get, Some}
use Rattle.cubit_base.specs.History.{after}
use Rattle.commit_log.specs.Log.{IsWhole}
use Rattle.log_bench.proofs.calls.filled.Given as goal

abbrev pub invariant-loop-i : goal.invariant-loop-i
invariant-loop-i g l =
    let terms = g.L.CommitLog.terms in
    let handle = g.L.CommitLog.handle in
    record {
      whole : IsWhole terms (handle l.log).seen l.at;
      live : slice_get (after terms.base (take l.at.len (handle l.log).seen)) 0 ≡ Some (l.key, Some l.now);
      spare : l.count ≤ (handle l.log).spare + l.i;
    }
