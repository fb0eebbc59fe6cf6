-- The times of rounds, in nanoseconds.
use Rattle.std.specs.Prelude.{ℕ, ◌≡◌, ◌+◌, ◌-◌, ◌^◌, min}
use Rattle.std.specs.Duration.{as_nanos, max_nanos}
use Rattle.kernel_bench.specs.declared.times.Times.{Times}

-- a round that took so long is counted in; sums stop at the last value of their type
pub record AddsRound (old new : Times) (nanos : ℕ) : Type 0 where
  pub rounds : new.rounds ≡ min (old.rounds + 1) (2 ^ 32 - 1)
  pub total : as_nanos new.total ≡ min (as_nanos old.total + nanos) max_nanos
  pub least : as_nanos new.least ≡ min (as_nanos old.least) nanos
