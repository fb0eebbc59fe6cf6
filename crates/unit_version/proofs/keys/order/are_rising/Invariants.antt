use Rattle.std.proofs.Common.{ℕ, ◌+◌, ◌<◌}
use Rattle.std.specs.Prelude.{slice_index}
use Rattle.unit_version.specs.Entry.{codes}
use Rattle.unit_version.proofs.keys.order.are_rising.Given as goal

abbrev pub invariant-loop-i : goal.invariant-loop-i
invariant-loop-i l =
    (k : ℕ) → k + 1 < l.i → slice_index (codes l.entries) k < slice_index (codes l.entries) (k + 1)
