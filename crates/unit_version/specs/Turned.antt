-- The lists of the units of truth values.
use Rattle.std.specs.Prelude.{ℕ, ◌≡◌, ◌+◌, ◌<◌, ◌≤◌, ◌==◌, ◌⊎◌, false, List, [], ◌∷◌, ◌++◌, length, slice_index_or, Option, if◌then◌else◌}
use Rattle.std.specs.declared.alloc.Global.{Global}
use Rattle.std.specs.declared.vec.Vec.{Vec}
use Rattle.cubit_base.specs.Tuple.{TupleValue}
use Rattle.wah_words.specs.Rows.{differs}
use Rattle.unit_version.specs.Changes.{IsBitUnit, bit_place, row_bit}
use Rattle.unit_version.specs.declared.unit.Unit.{Unit as IndexUnit}

-- the place is from one on among so many, or 151; it is that of the unit there in which a row with the tuple is true
pub record IsPlace (from count : ℕ) (tuple : Option TupleValue) (place : ℕ) : Type 0 where
  pub within : place < 152
  pub own : (unit : IndexUnit) → IsBitUnit unit → from ≤ bit_place unit → bit_place unit < from + count
      → (place == bit_place unit) ≡ row_bit unit tuple
  pub others : (k : ℕ) → k < 151 → (k < from) ⊎ (from + count ≤ k) → (place == k) ≡ false

-- the row stands at the end of each of the lists from one on, so many, in whose unit it is turned, and the others stay
pub record ArePushed (from count row : ℕ) (before after : Option TupleValue) (old new : List (Vec ℕ Global))
    : Type 0 where
  pub long : length new ≡ 152
  pub own : (unit : IndexUnit) (d : Vec ℕ Global) → IsBitUnit unit → from ≤ bit_place unit
      → bit_place unit < from + count → (slice_index_or new (bit_place unit) d).items
      ≡ (slice_index_or old (bit_place unit) d).items
      ++ (if differs (row_bit unit before) (row_bit unit after) then row ∷ [] else [])
  pub others : (k : ℕ) (d : Vec ℕ Global) → k < 151 → (k < from) ⊎ (from + count ≤ k)
      → (slice_index_or new k d).items ≡ (slice_index_or old k d).items
