-- Bytes that go in or out piece by piece, where that is told.
use Rattle.std.specs.Prelude.{◌≡◌, ◌⊎◌, ℕ, List, ◌++◌, take, Option, Some, None}
use Rattle.cubit_io.specs.Count.{Rose}

-- where told, the piece was the front of what was left, and the rest is left now
abbrev pub Gives : Option (List ℕ) → List ℕ → Option (List ℕ) → Type 0
Gives None piece after = Unit {0}
Gives (Some before) piece after = (left : List ℕ) × (before ≡ piece ++ left) × (after ≡ Some left)

-- where told, what was taken grew by these bytes
abbrev pub GrewBy : Option (List ℕ) → Option (List ℕ) → List ℕ → Type 0
GrewBy None after bytes = Unit {0}
GrewBy (Some before) after bytes = after ≡ Some (before ++ bytes)

-- where told, what was taken grew by a front of these bytes
abbrev pub GrewByPrefix : Option (List ℕ) → Option (List ℕ) → List ℕ → Type 0
GrewByPrefix None after bytes = Unit {0}
GrewByPrefix (Some before) after bytes = (n : ℕ) × (after ≡ Some (before ++ take n bytes))

-- the sink took a front of the text, and all of it unless it failed
pub record Tells (before after : Option (List ℕ)) (faults faults_after : ℕ) (text : List ℕ) : Type 0 where
  pub part : GrewByPrefix before after text
  pub whole : Rose faults faults_after ⊎ GrewBy before after text
