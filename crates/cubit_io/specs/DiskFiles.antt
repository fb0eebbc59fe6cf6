-- The files of the outside.
use Rattle.std.specs.Prelude.{ℕ, List, [], Bool, Option, Some, None}

-- whether a file is chosen; the bytes that reads of it will give, where the runtime's files tell that; and how many
-- calls failed
pub record DiskFilesValue : Type 0 where
  pub has_chosen : Bool
  pub remaining : Option (List ℕ)
  pub faults : ℕ

-- nothing is told, of what is held or of what is left
abbrev pub nothing_told : {A : Type 0} → DiskFilesValue → Option A
nothing_told files = None

-- how many calls failed
abbrev pub fault_count : DiskFilesValue → ℕ
fault_count files = files.faults

-- the bytes that reads of the chosen file will give, where it tells that; none where there is no file
abbrev pub remaining_of : {File : Type 0} → (File → Option (List ℕ)) → Option File → Option (List ℕ)
remaining_of remaining None = Some []
remaining_of remaining (Some file) = remaining file
