-- A file in memory.
use Rattle.std.specs.Prelude.{ℕ, List}

-- its name and its bytes
pub record MemoryFileValue : Type 0 where
  pub name : List ℕ
  pub bytes : List ℕ
