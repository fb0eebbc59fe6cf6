-- What a call of `Files` does to an object, seen by what the object tells: what it holds, what is left of the chosen
-- file, and how often the outside has failed.
use Rattle.std.specs.Prelude.{◌≡◌, ◌⊎◌, ◌<◌, ◌≤◌, ℕ, List, [], Option, Result, Ok, length, take, IsErr, IfOk, IfSome, OnOk, OnErr}
use Rattle.cubit_io.specs.Count.{Rose}
use Rattle.cubit_io.specs.Held.{Held, IsMissing, Chooses}
use Rattle.cubit_io.specs.Pieces.{Gives}

-- a call of `begin`; a missing name is no fault
pub record IsBegin {Object T E : Type 0} (held : Object → Held) (rest : Object → Option (List ℕ)) (faults : Object → ℕ)
    (name : List ℕ) (old new : Object) (result : Result T E) : Type 0 where
  pub chosen : OnOk result (Chooses (held old) name (rest new))
  pub missing : IsMissing (held old) name → IsErr result × (faults new ≡ faults old)
  pub cause : OnErr result (IsMissing (held old) name ⊎ Rose (faults old) (faults new))
  pub none_chosen : OnErr result (IfSome (rest new) (λ left. left ≡ []))
  pub stays : held new ≡ held old
  pub counted : faults old ≤ faults new

-- a call of `read`, which finds the buffer as `before` and leaves it as `after`
pub record IsRead {Object E : Type 0} (held : Object → Held) (rest : Object → Option (List ℕ)) (faults : Object → ℕ)
    (old new : Object) (before after : List ℕ) (result : Result ℕ E) : Type 0 where
  pub within : IfOk result (λ n. n ≤ length before)
  pub given : IfOk result (λ n. Gives (rest old) (take n after) (rest new))
  pub end : result ≡ Ok 0 → 0 < length before → IfSome (rest old) (λ left. left ≡ [])
  pub cause : OnErr result (Rose (faults old) (faults new))
  pub kept : OnErr result (rest new ≡ rest old)
  pub stays : held new ≡ held old
  pub counted : faults old ≤ faults new
