use Rattle.std.proofs.Common.{◌≢◌, ℕ, ◌<◌, IsSome, get_or}
use Rattle.cubit_base.specs.Table.{Row}
use Rattle.unit_version.proofs.tests.histories.is_free.Given as goal

abbrev pub invariant-loop-n : goal.invariant-loop-n
invariant-loop-n l = (k : ℕ) (d : Row) → k < l.n → IsSome (get_or l.rows.items k d).1
    → (get_or l.rows.items k d).0 ≢ l.key
