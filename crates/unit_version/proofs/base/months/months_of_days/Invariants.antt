use Rattle.std.proofs.Common.{◌≡◌, ℕ, ◌<◌, length, get_or}
use Rattle.column_bins.specs.Month.{month_of}
use Rattle.unit_version.proofs.base.months.months_of_days.Given as goal

abbrev pub invariant-loop-day : goal.invariant-loop-day
invariant-loop-day l = (length l.months ≡ 2557) × ((k : ℕ) → k < l.day → get_or l.months k 0 ≡ month_of k)
