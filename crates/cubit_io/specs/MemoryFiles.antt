-- Files in memory, of which calls that are listed fail.
use Rattle.std.specs.Prelude.{ℕ, ◌<◌, ◌≤◌, List, [], length, drop, Option, Some, None, slice_get}
use Rattle.std.specs.List.{position}
use Rattle.std.specs.Option.{option_map, option_map_or}
use Rattle.std.specs.Str.{bytes_eq}
use Rattle.cubit_io.specs.Held.{Held}
use Rattle.cubit_io.specs.MemoryFile.{MemoryFileValue}
use Rattle.cubit_io.specs.declared.memory_files.Place.{Place}

-- the files; what is left of the chosen one, and nothing where none is chosen; the numbers of the calls that are to
-- fail, from 1; how many calls there were; and how many faults
pub record MemoryFilesValue : Type 0 where
  pub files : List MemoryFileValue
  pub rest : List ℕ
  pub fails : List ℕ
  pub calls : ℕ
  pub faults : ℕ

-- the index of the first file of this name
abbrev pub index_under : List MemoryFileValue → List ℕ → Option ℕ
index_under files name = position (λ file. bytes_eq file.name name) files

-- the bytes of the file with this index
abbrev pub bytes_at : List MemoryFileValue → ℕ → List ℕ
bytes_at files index = option_map_or (λ file. file.bytes) (slice_get files index) []

-- the bytes under this name
abbrev pub bytes_under : List MemoryFileValue → List ℕ → Option (List ℕ)
bytes_under files name = option_map (bytes_at files) (index_under files name)

-- all is told of what is held
abbrev pub held_of : MemoryFilesValue → Held
held_of memory = Some (bytes_under memory.files)

-- all is told of what is left
abbrev pub rest_of : MemoryFilesValue → Option (List ℕ)
rest_of memory = Some memory.rest

-- how many faults there were
abbrev pub fault_count : MemoryFilesValue → ℕ
fault_count memory = memory.faults

-- what is left from a place on
abbrev pub left_at : List MemoryFileValue → Option Place → List ℕ
left_at files None = []
left_at files (Some place) = drop place.read (bytes_at files place.file)

-- the place lies in one of the files, or at its end
abbrev pub IsWithin : List MemoryFileValue → Option Place → Type 0
IsWithin files None = Unit {0}
IsWithin files (Some place) = (place.file < length files) × (place.read ≤ length (bytes_at files place.file))
