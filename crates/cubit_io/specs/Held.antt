-- What an object that reads files holds, where it tells.
use Rattle.std.specs.Prelude.{◌≡◌, ℕ, List, Option, Some, None}

-- where told, the bytes under each name
abbrev pub Held : Type 0
Held = Option (List ℕ → Option (List ℕ))

-- it is told what is held, and no file has this name
abbrev pub IsMissing : Held → List ℕ → Type 0
IsMissing None name = ⊥
IsMissing (Some files) name = files name ≡ None

-- it is told what is held, and the file of this name has these bytes
abbrev pub Holds : Held → List ℕ → List ℕ → Type 0
Holds None name bytes = ⊥
Holds (Some files) name bytes = files name ≡ Some bytes

-- where it is told what is held, the file of this name has these bytes
abbrev pub HoldsWhereTold : Held → List ℕ → List ℕ → Type 0
HoldsWhereTold None name bytes = Unit {0}
HoldsWhereTold (Some files) name bytes = files name ≡ Some bytes

-- where it is told what is held, the file of this name is there and has bytes of which P holds
abbrev pub HasWhereTold : Held → List ℕ → (List ℕ → Type 0) → Type 0
HasWhereTold None name P = Unit {0}
HasWhereTold (Some files) name P = (bytes : List ℕ) × (files name ≡ Some bytes) × P bytes

-- where it is told what is held, the file of this name is there, and what is left to read is all its bytes
abbrev pub Chooses : Held → List ℕ → Option (List ℕ) → Type 0
Chooses None name left = Unit {0}
Chooses (Some files) name left = (bytes : List ℕ) × (files name ≡ Some bytes) × (left ≡ Some bytes)
