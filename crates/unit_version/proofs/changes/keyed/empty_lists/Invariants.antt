use Rattle.std.proofs.Common.{◌≡◌, ℕ, ◌<◌, [], length, get_or}
use Rattle.std.specs.declared.alloc.Global.{Global}
use Rattle.std.specs.declared.vec.Vec.{Vec}
use Rattle.unit_version.proofs.changes.keyed.empty_lists.Given as goal

abbrev pub invariant-loop-page : goal.invariant-loop-page
invariant-loop-page l = record {
  long : length l.lists.items ≡ l._page;
  each : (k : ℕ) (d : Vec ℕ Global) → k < l._page → (get_or l.lists.items k d).items ≡ [];
}
