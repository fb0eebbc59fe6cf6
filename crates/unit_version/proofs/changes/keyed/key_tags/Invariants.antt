use Rattle.std.proofs.Common.{take}
use Rattle.unit_version.specs.Changes.{AreKeyTags}
use Rattle.unit_version.proofs.changes.keyed.key_tags.Given as goal

abbrev pub invariant-loop-place : goal.invariant-loop-place
invariant-loop-place l = AreKeyTags (take l.place l.deltas) l.lists.items
