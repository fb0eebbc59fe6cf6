-- The lists of the units of truth values, one unit or column after another.
use Rattle.std.proofs.Common.{◌≡◌, ℕ, ◌+◌, ◌<◌, ◌≤◌, List, [], ◌∷◌, ◌++◌, length, map, get_or, cond, refl, sym, ap, ◌∙◌, inl, inr, arith}
use Rattle.std.specs.List.{filter}
use Rattle.std.specs.declared.alloc.Global.{Global}
use Rattle.std.specs.declared.vec.Vec.{Vec}
use Rattle.std.proofs.lemmas.Bool.{cases_lt, cases_Bool}
use Rattle.std.proofs.lemmas.List.{map-append}
use Rattle.std.proofs.lemmas.List.Elements.{filter-append}
use Rattle.column_bins.specs.declared.column.Column.TheVariants.{Ship, Disc, Qty, Flag, Status}
use Rattle.unit_version.specs.Changes.{AreTurned, IsBitUnit, bit_place, turned_rows, turns}
use Rattle.unit_version.specs.Turned.{ArePushed}
use Rattle.unit_version.specs.declared.changes.row.RowChange.{RowChange}
use Rattle.unit_version.specs.declared.unit.Unit.{Unit as IndexUnit}
use Rattle.unit_version.specs.declared.unit.Unit.TheVariants as unit

-- the row of a change more stands at the end where it is turned
turned_rows-more : (unit : IndexUnit) (changes : List RowChange) (change : RowChange)
    → turned_rows unit (changes ++ change ∷ [])
    ≡ turned_rows unit changes ++ cond (turns unit change) (change.row ∷ []) []
turned_rows-more unit changes change =
    ap (map (λ (c : RowChange). c.row)) (filter-append (turns unit) changes (change ∷ []))
    ∙ map-append (λ (c : RowChange). c.row) (filter (turns unit) changes) (filter (turns unit) (change ∷ []))
    ∙ ap (λ (rows : List ℕ). turned_rows unit changes ++ rows) (elim (cases_Bool (turns unit change)) [
      | inl turned ↦ rw turned refl
      | inr stays ↦ rw stays refl
    ])

-- the lists of the units whose place is below an end have the change too, and the others have not yet
pub record ArePartlyTurned (changes : List RowChange) (change : RowChange) (end : ℕ) (lists : List (Vec ℕ Global))
    : Type 0 where
  pub long : length lists ≡ 152
  pub done : (unit : IndexUnit) (d : Vec ℕ Global) → IsBitUnit unit → bit_place unit < end
      → (get_or lists (bit_place unit) d).items ≡ turned_rows unit (changes ++ change ∷ [])
  pub left : (unit : IndexUnit) (d : Vec ℕ Global) → IsBitUnit unit → end ≤ bit_place unit
      → (get_or lists (bit_place unit) d).items ≡ turned_rows unit changes

-- each unit of truth values has a place below 151
bit_place-low : (unit : IndexUnit) → IsBitUnit unit → bit_place unit < 151
bit_place-low unit.Live is = omega arith
bit_place-low (unit.Bin Ship bin) is = omega arith
bit_place-low (unit.Bin Disc bin) is = omega arith
bit_place-low (unit.Bin Qty bin) is = omega arith
bit_place-low (unit.Bin Flag bin) is = omega arith
bit_place-low (unit.Bin Status bin) is = omega arith
bit_place-low (unit.Page page) is = absurd is
bit_place-low (unit.Keys rest) is = absurd is

-- none yet, and all
pub turned-none : (changes : List RowChange) (change : RowChange) (lists : List (Vec ℕ Global))
    → AreTurned changes lists → ArePartlyTurned changes change 0 lists
turned-none changes change lists are = record {
  long = are.long;
  done = λ unit d is low. absurd (omega arith);
  left = λ unit d is high. are.each unit d is;
}

pub turned-all : (changes : List RowChange) (change : RowChange) (lists : List (Vec ℕ Global))
    → ArePartlyTurned changes change 151 lists → AreTurned (changes ++ change ∷ []) lists
turned-all changes change lists are = record {
  long = are.long;
  each = λ unit d is. are.done unit d is (bit_place-low unit is);
}

-- some more
pub turned-more : (changes : List RowChange) (change : RowChange) (from count : ℕ) (old new : List (Vec ℕ Global))
    → ArePartlyTurned changes change from old → ArePushed from count change.row change.before change.after old new
    → ArePartlyTurned changes change (from + count) new
turned-more changes change from count old new are pushed = record {
  long = pushed.long;
  done = λ unit d is low. elim (cases_lt (bit_place unit) from) [
    | inl before ↦ pushed.others (bit_place unit) d (bit_place-low unit is) (inl before) ∙ are.done unit d is before
    | inr behind ↦
        pushed.own unit d is behind low
        ∙ ap (λ (rows : List ℕ). rows ++ cond (turns unit change) (change.row ∷ []) []) (are.left unit d is behind)
        ∙ sym (turned_rows-more unit changes change)
  ];
  left = λ unit d is high.
      pushed.others (bit_place unit) d (bit_place-low unit is) (inr high) ∙ are.left unit d is (omega arith);
}
