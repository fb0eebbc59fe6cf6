-- What a call of `Sink` does to an object, seen by what the object tells: what it took, and how often the outside has
-- failed.
use Rattle.std.specs.Prelude.{◌≡◌, ◌<◌, ◌≤◌, ℕ, List, Option, Result, length, take, IfOk, OnErr}
use Rattle.cubit_io.specs.Count.{Rose}
use Rattle.cubit_io.specs.Pieces.{GrewBy}

-- a call of `write` with these bytes
pub record IsWrite {Object E : Type 0} (taken : Object → Option (List ℕ)) (faults : Object → ℕ)
    (bytes : List ℕ) (old new : Object) (result : Result ℕ E) : Type 0 where
  pub within : IfOk result (λ n. n ≤ length bytes)
  pub progress : 0 < length bytes → IfOk result (λ n. 0 < n)
  pub grew : IfOk result (λ n. GrewBy (taken old) (taken new) (take n bytes))
  pub cause : OnErr result (Rose (faults old) (faults new))
  pub kept : OnErr result (taken new ≡ taken old)
  pub counted : faults old ≤ faults new
