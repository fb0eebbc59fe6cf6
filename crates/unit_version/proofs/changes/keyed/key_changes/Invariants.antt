use Rattle.std.proofs.Common.{◌≡◌, ℕ, ◌+◌, ◌<◌, length, get_or}
use Rattle.std.specs.declared.alloc.Global.{Global}
use Rattle.std.specs.declared.vec.Vec.{Vec}
use Rattle.unit_version.specs.Changes.{AreKeyChanges, key_number}
use Rattle.unit_version.specs.Span.{AreTags}
use Rattle.unit_version.specs.declared.changes.keyed.KeyChange.{KeyChange}
use Rattle.unit_version.proofs.changes.keyed.key_changes.Given as goal

abbrev pub invariant-loop-rest : goal.invariant-loop-rest
invariant-loop-rest l = record {
  left : l.rest + length l.tags.items ≡ 64;
  tags_are : (k : ℕ) (d : Vec ℕ Global) → k < length l.tags.items
      → AreTags (key_number (l.rest + k)) l.deltas (get_or l.tags.items k d).items;
  long : length l.lists.items ≡ l.rest;
  made : (k : ℕ) (d : Vec KeyChange Global) → k < l.rest
      → AreKeyChanges k l.deltas (get_or l.lists.items k d).items;
}
