use Rattle.std.proofs.Common.{◌≢◌, ℕ, ◌<◌}
use Rattle.std.specs.Prelude.{slice_index_or}
use Rattle.cubit_base.specs.Table.{Row}
use Rattle.selection.proofs.tests.plain.has_key.Given as goal

abbrev pub invariant-loop-n : goal.invariant-loop-n
invariant-loop-n l = (k : ℕ) (d : Row) → k < l.n → (slice_index_or l.table k d).0 ≢ l.key
