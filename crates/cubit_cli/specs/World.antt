-- What a call reads and writes, as far as that is told.
use Rattle.std.specs.Prelude.{◌≡◌, ◌≤◌, ℕ, List, Option}
use Rattle.cubit_io.specs.Held.{Held}

-- what the files hold, and how often they failed
pub record FilesState : Type 0 where
  pub held : Held
  pub faults : ℕ

-- what a sink took, and how often it failed
pub record SinkState : Type 0 where
  pub taken : Option (List ℕ)
  pub faults : ℕ

-- the files, the output and standard error
pub record World : Type 0 where
  pub files : FilesState
  pub out : SinkState
  pub err : SinkState

abbrev pub files_state : Held → ℕ → FilesState
files_state held faults = record { held = held; faults = faults }

abbrev pub sink_state : Option (List ℕ) → ℕ → SinkState
sink_state taken faults = record { taken = taken; faults = faults }

-- what no call changes, and what no call takes back
pub record GoesOn (before after : World) : Type 0 where
  pub held : after.files.held ≡ before.files.held
  pub files_counted : before.files.faults ≤ after.files.faults
  pub out_counted : before.out.faults ≤ after.out.faults
  pub err_counted : before.err.faults ≤ after.err.faults
