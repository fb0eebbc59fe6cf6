use Rattle.std.proofs.Common.{take}
use Rattle.unit_version.specs.Changes.{row_number}
use Rattle.unit_version.specs.Span.{AreTags}
use Rattle.unit_version.proofs.changes.row.row_tags.Given as goal

abbrev pub invariant-loop-place : goal.invariant-loop-place
invariant-loop-place l = AreTags row_number (take l.place l.deltas) l.tags.items
