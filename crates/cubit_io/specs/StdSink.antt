-- The standard streams, of which nothing is told of what they took.
use Rattle.std.specs.Prelude.{ℕ, List, Option, None}

-- what the stream holds, where its type says it (the standard streams don't), and how many calls failed
pub record StdSinkValue : Type 0 where
  pub contents : Option (List ℕ)
  pub faults : ℕ

-- nothing is told of what was taken
abbrev pub nothing_told : StdSinkValue → Option (List ℕ)
nothing_told sink = None

-- how many calls failed
abbrev pub fault_count : StdSinkValue → ℕ
fault_count sink = sink.faults
