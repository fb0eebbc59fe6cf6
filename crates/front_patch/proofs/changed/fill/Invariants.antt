use Rattle.std.proofs.Common.{◌≡◌, ◌+◌, ◌-◌, ◌≤◌, ◌++◌, ◌⊎◌, length, replicate}
use Rattle.front_patch.proofs.changed.fill.Given as goal

abbrev pub invariant-loop-end : goal.invariant-loop-end
invariant-loop-end l = record {
  items : l.counts.items ≡ l.initial.counts.items ++ replicate (l._end - length l.initial.counts.items) l.count;
  most : (l._end ≡ length l.initial.counts.items) ⊎ (l._end ≤ l.page + 1);
}
