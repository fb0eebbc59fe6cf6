-- A file that is read piece by piece.
use Rattle.std.proofs.Common.{◌≡◌, ℕ, List, ◌++◌, Option, Some, None}
use Rattle.cubit_io.specs.Held.{Held}

-- where it is told what is held, the file of this name is these bytes and then what is left
abbrev pub HasRead : Held → List ℕ → List ℕ → Option (List ℕ) → Type 0
HasRead None name bytes rest = Unit {0}
HasRead (Some files) name bytes rest = (left : List ℕ) × (files name ≡ Some (bytes ++ left)) × (rest ≡ Some left)
