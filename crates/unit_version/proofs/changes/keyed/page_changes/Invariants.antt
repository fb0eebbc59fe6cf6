use Rattle.std.proofs.Common.{◌≡◌, ℕ, ◌<◌, length, get_or}
use Rattle.unit_version.specs.declared.changes.keyed.KeyChange.{KeyChange}
use Rattle.unit_version.specs.declared.changes.span.Span.{Span}
use Rattle.unit_version.specs.Changes.{IsKeyChange}
use Rattle.unit_version.proofs.changes.keyed.page_changes.Given as goal

abbrev pub invariant-loop-span : goal.invariant-loop-span
invariant-loop-span l = record {
  long : length l.changes.items ≡ l.span-index;
  each : (k : ℕ) (s : Span) (change : KeyChange) → k < l.span-index
      → IsKeyChange l.deltas (get_or l.span-items k s) (get_or l.changes.items k change);
}
