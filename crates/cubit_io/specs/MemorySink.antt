-- A sink in memory, of which calls that are listed fail.
use Rattle.std.specs.Prelude.{ℕ, List, Option, Some}

-- all that was taken; the numbers of the calls that are to fail, from 1; how many calls there were; how many failed
pub record MemorySinkValue : Type 0 where
  pub taken : List ℕ
  pub fails : List ℕ
  pub calls : ℕ
  pub faults : ℕ

-- all is told of what was taken
abbrev pub taken_of : MemorySinkValue → Option (List ℕ)
taken_of sink = Some sink.taken

-- how many calls failed
abbrev pub fault_count : MemorySinkValue → ℕ
fault_count sink = sink.faults
