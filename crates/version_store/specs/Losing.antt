-- A store in memory that loses turns where it is told to.
use Rattle.std.specs.Prelude.{◌≤◌, ℕ, ◌+◌, ◌-◌, ◌^◌, List, min, Contains, Result, Ok, Err}
use Rattle.commit_log.specs.Handle.{raised}
use Rattle.commit_log.specs.declared.front.Front.{Front}
use Rattle.unit_version.specs.declared.unit.Unit.{Unit as IndexUnit}
use Rattle.version_store.specs.Memory.{MemoryValue, memory_store, version_of}
use Rattle.version_store.specs.Store.{Store}
use Rattle.version_store.specs.declared.store.Again.{Again}
use Rattle.version_store.specs.declared.store.ReplaceStop.{ReplaceStop}
use Rattle.version_store.specs.declared.store.ReplaceStop.TheVariants.{Busy, Newer}

-- calls of one kind: the numbers of those to be lost, counted from 1, and how many there were
pub record Calls : Type 0 where
  pub lost : List ℕ
  pub count : ℕ

-- the next call is to be lost
abbrev pub IsNextLost : Calls → Type 0
IsNextLost calls = Contains calls.lost (raised calls.count)

abbrev pub with_call : Calls → Calls
with_call calls = record calls { count = raised calls.count }

-- what it keeps, how many turns it lost, and its calls of hold and of replace
pub record LosingValue : Type 0 where
  pub memory : MemoryValue
  pub losses : ℕ
  pub holds : Calls
  pub replacements : Calls

abbrev pub losing_store : LosingValue → Store
losing_store store = record (memory_store store.memory) { losses = store.losses }

-- a count of lost turns that is kept in 64 bits, after so many more: at its last value it stays
abbrev pub lost_more : ℕ → ℕ → ℕ
lost_more more losses = min (losses + more) (2 ^ 64 - 1)

-- the lost turns after a hold, which loses all its tries or none
abbrev pub hold_losses : {C : Type 0} → ℕ → ℕ → Result C Again → ℕ
hold_losses tries losses (Ok claim) = losses
hold_losses tries losses (Err again) = lost_more tries losses

-- and after a replacement, which loses one turn or none
abbrev pub replace_losses : {C : Type 0} → ℕ → Result (Unit {0}) (C × ReplaceStop) → ℕ
replace_losses losses (Ok done) = losses
replace_losses losses (Err (back, Busy)) = lost_more 1 losses
replace_losses losses (Err (back, Newer front)) = losses

-- a replacement by this front is lost: it is one to be lost, and the unit's version is not newer
abbrev pub IsLost : LosingValue → IndexUnit → Front → Type 0
IsLost store unit front =
    IsNextLost store.replacements × ((version_of store.memory.versions unit).front.len ≤ front.len)

-- the answer is that another caller has the version
abbrev pub IsBusyStop : {C : Type 0} → Result (Unit {0}) (C × ReplaceStop) → Type 0
IsBusyStop (Ok done) = ⊥
IsBusyStop (Err (back, Busy)) = Unit {0}
IsBusyStop (Err (back, Newer front)) = ⊥
