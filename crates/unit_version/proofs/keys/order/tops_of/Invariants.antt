use Rattle.std.proofs.Common.{◌≡◌, ℕ, ◌*◌, ◌<◌, length}
use Rattle.std.specs.Prelude.{slice_index}
use Rattle.unit_version.specs.Entry.{codes}
use Rattle.unit_version.proofs.keys.order.tops_of.Given as goal

abbrev pub invariant-loop-piece : goal.invariant-loop-piece
invariant-loop-piece l =
    (length l.tops.items ≡ l.piece)
    × ((i : ℕ) → i < l.piece → slice_index l.tops.items i ≡ slice_index (codes l.entries) (16 * i))
