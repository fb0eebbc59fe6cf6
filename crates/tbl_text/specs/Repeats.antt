-- The first key that stands twice: among the rows' keys in order, a repeated key stands beside itself.
use Rattle.std.specs.Prelude.{◌≡◌, ℕ, ◌&&◌, nat_lt, Option, Some, None, if◌then◌else◌, ◌+◌, ◌<◌, ◌≤◌, List, length, map, take, slice_index_or, MatchOption}
use Rattle.std.specs.List.{enumerate_from, AllAdjacentBelow}
use Rattle.std.specs.declared.cmp.Ordering.{Ordering}
use Rattle.std.specs.Ordering.{nat_cmp, ordering_then}
use Rattle.cubit_base.specs.Key.{same_key, key_cmp}
use Rattle.cubit_base.specs.Table.{Row, HasDistinctKeys}
use Rattle.tbl_text.specs.declared.base.repeats.Entry.{Entry}
use Rattle.tbl_text.specs.declared.base.repeats.Repeat.{Repeat}

-- two rows have one key, and no two rows before the later of them do
pub record IsFirstRepeat (rows : List Row) (earlier later : ℕ) : Type 0 where
  pub order : earlier < later
  pub within : later < length rows
  pub same : (d : Row) → (slice_index_or rows earlier d).0 ≡ (slice_index_or rows later d).0
  pub distinct : HasDistinctKeys (take later rows)

-- where the rows' keys differ nothing is found, and else their first repeat
abbrev pub FindsFirstRepeat : List Row → Option Repeat → Type 0
FindsFirstRepeat rows found =
    MatchOption found (HasDistinctKeys rows) (λ repeat. IsFirstRepeat rows repeat.earlier repeat.later)

-- the entry of a row with a number
abbrev pub entry_of : ℕ → Row → Entry
entry_of number row = record { key = row.0; row = number }

-- the entries of the rows, in the order of the rows
abbrev pub entries_of : List Row → List Entry
entries_of rows = map (λ p. entry_of p.0 p.1) (enumerate_from 0 rows)

-- by key, and by row within one key
abbrev pub entry_cmp : Entry → Entry → Ordering
entry_cmp a b = ordering_then (key_cmp a.key b.key) (nat_cmp a.row b.row)

-- two neighbours with one key, of which the later row is below that of the tie so far, or else that tie
abbrev pub lesser_tie : Option Repeat → Entry → Entry → Option Repeat
lesser_tie None a b = if same_key a.key b.key then Some (record { earlier = a.row; later = b.row }) else None
lesser_tie (Some tie) a b =
    if same_key a.key b.key && nat_lt b.row tie.later
    then Some (record { earlier = a.row; later = b.row }) else Some tie

-- they are of one key
abbrev pub HasSameKey : Entry → Entry → Type 0
HasSameKey a b = a.key ≡ b.key

-- up to a place, no entry has the key of the entry before it
abbrev pub HasNoTie : List Entry → ℕ → Type 0
HasNoTie entries end = AllAdjacentBelow (λ a b. ¬ HasSameKey a b) entries end

-- the rows of two neighbours with one key, and up to a place no such neighbours have a lower later row
pub record IsLeastTie (entries : List Entry) (end earlier later : ℕ) : Type 0 where
  pub place : ℕ
  pub within : place + 1 < length entries
  pub earlier_is : (d : Entry) → (slice_index_or entries place d).row ≡ earlier
  pub later_is : (d : Entry) → (slice_index_or entries (place + 1) d).row ≡ later
  pub same : (d : Entry) → HasSameKey (slice_index_or entries place d) (slice_index_or entries (place + 1) d)
  pub least : AllAdjacentBelow (λ a b. HasSameKey a b → later ≤ b.row) entries end

-- where no neighbours up to a place have one key nothing is found, and else their least tie
abbrev pub FindsLeastTie : List Entry → ℕ → Option Repeat → Type 0
FindsLeastTie entries end found =
    MatchOption found (HasNoTie entries end) (λ tie. IsLeastTie entries end tie.earlier tie.later)
