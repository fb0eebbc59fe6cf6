-- How the parts of a reading end.
use Rattle.std.specs.Prelude.{◌≡◌, ◌⊎◌, ◌≤◌, ℕ, ◌+◌, All, List, [], ◌∷◌, length, Vec, Result, Ok, Err}
use Rattle.std.specs.Borrow.{Bor}
use Rattle.cubit_io.specs.Count.{Rose}
use Rattle.cubit_io.specs.Held.{Held, IsMissing}
use Rattle.tbl_text.specs.Lines.{lines_of}
use Rattle.refresh_streams.specs.Reading.{Contents, WhereTold, Bad, Step, Stops, line_steps, steps_of_bytes, Progress, after_steps, Reached, Meets}
use Rattle.refresh_streams.specs.Script.{weights, DropsSomeOrder}
use Rattle.refresh_streams.specs.declared.stop.ScriptStop.{ScriptStop}
use Rattle.refresh_streams.specs.declared.stop.ScriptStop.TheVariants as stop

-- a file is in the way
abbrev pub NotOpened : Held → ℕ → ℕ → List ℕ → ScriptStop → Type 0
NotOpened held faults faults' name (stop.Fault file) = (file ≡ name) × (IsMissing held name ⊎ Rose faults faults')
NotOpened held faults faults' name (stop.Bad file n fault fields) =
    WhereTold held (λ contents. (says : ℕ → List ℕ → List Step)
    → steps_of_bytes name says (contents name) ≡ Stops (Bad file n fault fields) ∷ [])
NotOpened held faults faults' name stop.Memory = Unit {0}

-- a file was read whole, or is in the way
abbrev pub Opened : {A : Type 0} → Held → ℕ → ℕ → List ℕ → Result (Vec ℕ A) ScriptStop → Type 0
Opened held faults faults' name (Ok bytes) =
    WhereTold held (λ contents. (says : ℕ → List ℕ → List Step)
    → steps_of_bytes name says (contents name) ≡ line_steps says 1 (lines_of bytes.items))
Opened held faults faults' name (Err stop) = NotOpened held faults faults' name stop

-- a call makes these steps, which depend on what the files hold
abbrev pub Makes : Held → ℕ → ℕ → (Contents → List Step) → Progress → Progress → Result (Unit {0}) ScriptStop
    → Type 0
Makes held faults faults' steps p now (Ok done) = WhereTold held (λ contents. after_steps (steps contents) p ≡ Ok now)
Makes held faults faults' steps p now (Err (stop.Fault file)) =
    (IsMissing held file ⊎ Rose faults faults') × WhereTold held (λ contents. Meets (steps contents) p file)
Makes held faults faults' steps p now (Err (stop.Bad file n fault fields)) =
    WhereTold held (λ contents. after_steps (steps contents) p ≡ Err (Bad file n fault fields))
Makes held faults faults' steps p now (Err stop.Memory) = Unit {0}

-- a call makes these steps, and reads no file
abbrev pub MakesAlone : List Step → Progress → Progress → Result (Unit {0}) ScriptStop → Type 0
MakesAlone steps p now (Ok done) = after_steps steps p ≡ Ok now
MakesAlone steps p now (Err (stop.Fault file)) = ⊥
MakesAlone steps p now (Err (stop.Bad file n fault fields)) = after_steps steps p ≡ Err (Bad file n fault fields)
MakesAlone steps p now (Err stop.Memory) = Unit {0}

-- a call makes the steps of the first line of the bytes, which has the number n, and gives what follows the line
abbrev pub MakesFirst : (ℕ → List ℕ → List Step) → ℕ → List ℕ → Progress → Progress
    → Result (Bor (List ℕ)) ScriptStop → Type 0
MakesFirst says n bytes p now (Ok rest) =
    Reached (line_steps says n (lines_of bytes)) (line_steps says (n + 1) (lines_of rest.now)) p now
MakesFirst says n bytes p now (Err stop) =
    MakesAlone (line_steps says n (lines_of bytes)) p now (Err stop)

-- what holds of each reading, also where it is not told what the files hold: the weights stay within the room, each
-- order that is dropped is at least 1, and there are no more commands than lines of the script and weight that was left
pub record GoesOn (lines : ℕ) (p now : Progress) : Type 0 where
  pub weights : weights now.commands + now.left ≡ weights p.commands + p.left
  pub orders : All DropsSomeOrder p.commands → All DropsSomeOrder now.commands
  pub few : length now.commands + now.left ≤ length p.commands + p.left + lines
