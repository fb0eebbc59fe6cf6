-- Reading a file whole.
use Rattle.std.specs.Prelude.{◌≡◌, ◌⊎◌, ◌<◌, ◌≤◌, ℕ, List, Result, Vec, length, vec_len, IsErr, IsErrOf, IfOk}
use Rattle.cubit_io.specs.Count.{Rose}
use Rattle.cubit_io.specs.Held.{Held, IsMissing, Holds, HoldsWhereTold, HasWhereTold}
use Rattle.cubit_io.specs.declared.whole.ReadStop.{ReadStop}
use Rattle.cubit_io.specs.declared.whole.ReadStop.TheVariants.{Fault, TooLong}

-- a call that reads all bytes of the file of this name, where they are no more than the limit; else it says why not
pub record IsWholeRead {Object A : Type 0} (held : Object → Held) (faults : Object → ℕ) (limit : ℕ)
    (name : List ℕ) (old new : Object) (result : Result (Vec ℕ A) ReadStop) : Type 0 where
  pub whole : IfOk result (λ bytes. HoldsWhereTold (held old) name bytes.items)
  pub within : IfOk result (λ bytes. vec_len bytes ≤ limit)
  pub fault : IsErrOf result Fault → IsMissing (held old) name ⊎ Rose (faults old) (faults new)
  pub missing : IsMissing (held old) name → IsErrOf result Fault
  pub too_long : IsErrOf result TooLong → HasWhereTold (held old) name (λ bytes. limit < length bytes)
  pub longer : (bytes : List ℕ) → Holds (held old) name bytes → limit < length bytes → IsErr result
  pub stays : held new ≡ held old
  pub counted : faults old ≤ faults new
