-- What deltas change, row by row, bin by bin and key by key.
use Rattle.std.specs.Prelude.{ℕ, ◌≡◌, ◌+◌, ◌%◌, ◌<◌, ◌≤◌, ◌==◌, Bool, false, All, List, length, map, filter, find, is_some, slice_get, if◌then◌else◌, slice_index_or, Option, Some, None}
use Rattle.std.specs.List.Sorted.{IsStrictlyIncreasing}
use Rattle.std.specs.Option.{option_map}
use Rattle.std.specs.declared.alloc.Global.{Global}
use Rattle.std.specs.declared.vec.Vec.{Vec}
use Rattle.cubit_base.specs.Key.{KeyValue}
use Rattle.cubit_base.specs.Tuple.{TupleValue}
use Rattle.cubit_base.specs.History.{is_of_row, is_of_key, last_delta}
use Rattle.cubit_base.specs.declared.delta.Delta.{Delta}
use Rattle.column_bins.specs.declared.column.Column.{Column}
use Rattle.column_bins.specs.declared.column.Column.TheVariants.{Ship, Disc, Qty, Flag, Status}
use Rattle.column_bins.specs.Column.{bin_count, tuple_bin}
use Rattle.wah_words.specs.Rows.{differs}
use Rattle.unit_version.specs.Entry.{code_of}
use Rattle.unit_version.specs.Span.{AreTags}
use Rattle.unit_version.specs.declared.changes.row.RowChange.{RowChange}
use Rattle.unit_version.specs.declared.changes.keyed.KeyChange.{KeyChange}
use Rattle.unit_version.specs.declared.changes.span.Span.{Span}
use Rattle.unit_version.specs.declared.unit.Unit.{Unit as IndexUnit}
use Rattle.unit_version.specs.declared.unit.Unit.TheVariants as unit

-- the change of a row, and of a key by its code, or none
abbrev pub change_of_row : ℕ → List RowChange → Option RowChange
change_of_row row changes = find (λ c. c.row == row) changes

abbrev pub change_of_code : ℕ → List KeyChange → Option KeyChange
change_of_code code changes = find (λ c. c.code == code) changes

-- a place behind the changes of rows before one, and not behind others
pub record IsPlaceOf (row : ℕ) (changes : List RowChange) (place : ℕ) : Type 0 where
  pub within : place ≤ length changes
  pub before : (k : ℕ) (c : RowChange) → k < place → (slice_index_or changes k c).row < row
  pub behind : (k : ℕ) (c : RowChange) → place ≤ k → k < length changes → row ≤ (slice_index_or changes k c).row

-- what a row holds that held this before, by its change
abbrev pub held_then : Option TupleValue → Option RowChange → Option TupleValue
held_then held None = held
held_then held (Some c) = c.after

-- the tuples of rows from one on, so many, after changes of rows
pub record AreHeldThen (first count : ℕ) (changes : List RowChange) (old new : List (Option TupleValue)) : Type 0 where
  pub long : length new ≡ length old
  pub each : (at : ℕ) → at < count
      → slice_index_or new at None ≡ held_then (slice_index_or old at None) (change_of_row (first + at) changes)

-- by which numbers deltas are of one row, or of one key of a page
abbrev pub row_number : Delta → Option ℕ
row_number d = Some d.row

abbrev pub key_number : ℕ → Delta → Option ℕ
key_number rest d = if d.key.order % 64 == rest then Some (code_of d.key) else None

-- in rising order the rows that the deltas change, each with what it holds before the first delta of it and after the
-- last one
pub record AreRowChanges (deltas : List Delta) (changes : List RowChange) : Type 0 where
  pub rising : IsStrictlyIncreasing (map (λ c. c.row) changes)
  pub first : (row : ℕ) → option_map (λ c. c.before) (change_of_row row changes)
      ≡ option_map (λ d. d.before) (find (is_of_row row) deltas)
  pub last : (row : ℕ) → option_map (λ c. c.after) (change_of_row row changes)
      ≡ option_map (λ d. d.after) (last_delta (is_of_row row) deltas)

-- the change is what the deltas of a span come to
pub record IsRowChange (deltas : List Delta) (span : Span) (change : RowChange) : Type 0 where
  pub row : change.row ≡ span.number
  pub first : (d : Delta) → slice_get deltas span.first ≡ Some d → change.before ≡ d.before
  pub last : (d : Delta) → slice_get deltas span.last ≡ Some d → change.after ≡ d.after

pub record IsKeyChange (deltas : List Delta) (span : Span) (change : KeyChange) : Type 0 where
  pub code : change.code ≡ span.number
  pub row : (d : Delta) → slice_get deltas span.last ≡ Some d → change.row ≡ d.row
  pub last : (d : Delta) → slice_get deltas span.last ≡ Some d → change.after ≡ d.after

-- the row and the tuple, or none, that a change or a delta leaves
abbrev pub key_change : KeyChange → ℕ × Option TupleValue
key_change c = (c.row, c.after)

abbrev pub key_delta : Delta → ℕ × Option TupleValue
key_delta d = (d.row, d.after)

-- in rising order of codes the keys of a page that the deltas change, each with the row and the tuple that its last
-- delta leaves
pub record AreKeyChanges (rest : ℕ) (deltas : List Delta) (changes : List KeyChange) : Type 0 where
  pub rising : IsStrictlyIncreasing (map (λ c. c.code) changes)
  pub last : (key : KeyValue) → key.order % 64 ≡ rest → key.line < 8
      → option_map key_change (change_of_code (code_of key) changes)
      ≡ option_map key_delta (last_delta (is_of_key key) deltas)

-- a row with this tuple or none is true in the unit
abbrev pub row_bit : IndexUnit → Option TupleValue → Bool
row_bit unit.Live tuple = is_some tuple
row_bit (unit.Bin column bin) None = false
row_bit (unit.Bin column bin) (Some tuple) = tuple_bin column tuple == bin
row_bit (unit.Page page) tuple = false
row_bit (unit.Keys rest) tuple = false

-- the rows that are turned in the unit
abbrev pub turns : IndexUnit → RowChange → Bool
turns unit change = differs (row_bit unit change.before) (row_bit unit change.after)

abbrev pub turned_rows : IndexUnit → List RowChange → List ℕ
turned_rows unit changes = map (λ c. c.row) (filter (turns unit) changes)

-- the rows are those that deltas turn in the unit
pub record AreTurnedIn (unit : IndexUnit) (deltas : List Delta) (turned : List ℕ) : Type 0 where
  pub changes : List RowChange
  pub changes_are : AreRowChanges deltas changes
  pub turned_are : turned ≡ turned_rows unit changes

-- a unit that holds truth values, and its place among these
abbrev pub IsBitUnit : IndexUnit → Type 0
IsBitUnit unit.Live = Unit {0}
IsBitUnit (unit.Bin column bin) = bin < bin_count column
IsBitUnit (unit.Page page) = ⊥
IsBitUnit (unit.Keys rest) = ⊥

abbrev pub first_place : Column → ℕ
first_place Ship = 1
first_place Disc = 85
first_place Qty = 96
first_place Flag = 146
first_place Status = 149

abbrev pub bit_place : IndexUnit → ℕ
bit_place unit.Live = 0
bit_place (unit.Bin column bin) = first_place column + bin
bit_place (unit.Page page) = 151
bit_place (unit.Keys rest) = 151

-- for each such unit the rows that are turned in it
pub record AreTurned (changes : List RowChange) (lists : List (Vec ℕ Global)) : Type 0 where
  pub long : length lists ≡ 152
  pub each : (unit : IndexUnit) (d : Vec ℕ Global) → IsBitUnit unit
      → (slice_index_or lists (bit_place unit) d).items ≡ turned_rows unit changes

-- for each key page the tags of its deltas
pub record AreKeyTags (deltas : List Delta) (lists : List (Vec ℕ Global)) : Type 0 where
  pub long : length lists ≡ 64
  pub each : (rest : ℕ) (d : Vec ℕ Global) → rest < 64
      → AreTags (key_number rest) deltas (slice_index_or lists rest d).items
  pub lines : All (λ d. d.key.line < 8) deltas

-- for each key page the changes of its keys; no key has a line from 8 on, so that codes tell keys
pub record AreKeyed (deltas : List Delta) (lists : List (Vec KeyChange Global)) : Type 0 where
  pub long : length lists ≡ 64
  pub each : (rest : ℕ) (d : Vec KeyChange Global) → rest < 64
      → AreKeyChanges rest deltas (slice_index_or lists rest d).items
  pub lines : All (λ d. d.key.line < 8) deltas

-- what deltas change
pub record AreChanges (deltas : List Delta) (rows : List RowChange) (turned : List (Vec ℕ Global))
    (keys : List (Vec KeyChange Global)) : Type 0 where
  pub rows_are : AreRowChanges deltas rows
  pub turned_are : AreTurned rows turned
  pub keys_are : AreKeyed deltas keys
