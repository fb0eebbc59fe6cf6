-- Two rows have one key exactly where two neighbours of the sorted entries have it.
use Rattle.std.proofs.Common.{◌≡◌, ◌≢◌, ℕ, ◌+◌, ◌<◌, ◌≤◌, Bool, false, ◌==◌, List, [], ◌∷◌, length, get_or, take, Option, Some, None, subst, refl, sym, ap, ◌∙◌, inl, inr, arith}
use Rattle.std.specs.Prelude.{All, Contains, IsPermutation, IsSorted}
use Rattle.std.specs.Cmp.{IsTotalOrder}
use Rattle.std.specs.Ordering.{is_lt}
use Rattle.std.specs.List.{enumerate_from, AllAdjacentBelow, IsDistinct}
use Rattle.std.proofs.lemmas.Bool.{cases_lt, ne_eqb, eqb-false}
use Rattle.std.proofs.lemmas.Bool.Decides.{nat_tests}
use Rattle.std.proofs.lemmas.Cmp.{nat_cmp_total, nat_eq_equiv, on_total, then_total}
use Rattle.std.proofs.lemmas.List.{get_or_default, get_or-map, get_or-take, length-map, length-take}
use Rattle.std.proofs.lemmas.List.FromFn.{length-enumerate_from, get_or-enumerate_from}
use Rattle.std.proofs.lemmas.List.Sorted.{All-permutation, Contains-permutation, ranks_by, sorted_far}
use Rattle.std.proofs.lemmas.Map.Keys.{apart_from_distinct, IsDistinct-from_apart, IsDistinct-IsPermutation}
use Rattle.cubit_base.specs.Key.{KeyValue}
use Rattle.cubit_base.specs.Table.{Row, HasDistinctKeys}
use Rattle.tbl_text.specs.declared.base.repeats.Entry.{Entry}
use Rattle.tbl_text.specs.declared.base.repeats.Repeat.{Repeat}
use Rattle.tbl_text.proofs.Keys.{key_cmp-total}
use Rattle.tbl_text.specs.Repeats.{IsFirstRepeat, FindsFirstRepeat, entry_of, entries_of, entry_cmp, HasSameKey, HasNoTie, IsLeastTie, FindsLeastTie}

-- one entry is not above another
record IsUpTo (a b : Entry) : Type 0 where
  order : a.key.order ≤ b.key.order
  line : a.key.order ≡ b.key.order → a.key.line ≤ b.key.line
  row : a.key ≡ b.key → a.row ≤ b.row

-- an entry is that of its row
record IsEntryOf (rows : List Row) (entry : Entry) : Type 0 where
  within : entry.row < length rows
  is : (d : Row) → entry ≡ entry_of entry.row (get_or rows entry.row d)

-- what the sort leaves: each entry is of a row, each row has one, they do not fall, and no row has two
record AreSorted (rows : List Row) (entries : List Entry) : Type 0 where
  each : All (IsEntryOf rows) entries
  all : (n : ℕ) (d : Row) → n < length rows → Contains entries (entry_of n (get_or rows n d))
  up : (i j : ℕ) (d : Entry) → i ≤ j → j < length entries → IsUpTo (get_or entries i d) (get_or entries j d)
  apart : (i j : ℕ) (d : Entry) → i < j → j < length entries → (get_or entries i d).row ≢ (get_or entries j d).row

-- as many entries as rows
length-entries_of : (rows : List Row) → length (entries_of rows) ≡ length rows
length-entries_of rows = length-map (enumerate_from 0 rows) (λ p. entry_of p.0 p.1) ∙ length-enumerate_from 0 rows

-- the entry at a place is that of the row there
get_or-entries_of : (rows : List Row) (n : ℕ) (e : Entry) (d : Row) → n < length rows
    → get_or (entries_of rows) n e ≡ entry_of n (get_or rows n d)
get_or-entries_of rows n e d within =
    get_or-map (λ p. entry_of p.0 p.1) (enumerate_from 0 rows) n (0, d) e (omega (arith, length-enumerate_from 0 rows))
    ∙ ap (λ (p : ℕ × Row). entry_of p.0 p.1) (get_or-enumerate_from 0 rows n (0, d) within)
    ∙ (let at : 0 + n ≡ n = omega arith in rw at refl)

-- entries stand in one line
entry_cmp-total : IsTotalOrder entry_cmp
entry_cmp-total =
    then_total (on_total (λ (e : Entry). e.key) key_cmp-total) (on_total (λ (e : Entry). e.row) nat_cmp_total)

-- what the order says of two entries
IsUpTo-from_order : (a b : Entry) → is_lt (entry_cmp b a) ≡ false → IsUpTo a b
IsUpTo-from_order a b order = record {
  order = grind (arith, nat_tests);
  line = λ o. grind (arith, nat_tests);
  row = λ same. grind (arith, nat_tests);
}

-- a row's entry is an entry of the rows
IsEntryOf-entry_of : (rows : List Row) (n : ℕ) (d : Row) → n < length rows
    → IsEntryOf rows (entry_of n (get_or rows n d))
IsEntryOf-entry_of rows n d within = record {
  within = within;
  is = λ e. ap (entry_of n) (get_or_default rows n d e within);
}

-- and so is each of their entries
IsEntryOf-entries_of : (rows : List Row) → All (IsEntryOf rows) (entries_of rows)
IsEntryOf-entries_of [] n e within = absurd (omega arith)
IsEntryOf-entries_of (row ∷ rows) n e within =
    let all : List Row = row ∷ rows in
    let at : n < length all = omega (arith, length-entries_of all) in
    subst (IsEntryOf all) (sym (get_or-entries_of all n e row at)) (IsEntryOf-entry_of all n row at)

-- the entry at a place has the place as its row
row-entries_of : (rows : List Row) (n : ℕ) (e : Entry) → n < length (entries_of rows)
    → (get_or (entries_of rows) n e).row ≡ n
row-entries_of [] n e within = absurd (omega arith)
row-entries_of (row ∷ rows) n e within =
    let all : List Row = row ∷ rows in
    ap (λ (entry : Entry). entry.row) (get_or-entries_of all n e row (omega (arith, length-entries_of all)))

abbrev same_row : Entry → Entry → Bool
same_row a b = a.row == b.row

-- the entries of two rows have two row numbers
IsDistinct-entries_of : (rows : List Row) → IsDistinct same_row (entries_of rows)
IsDistinct-entries_of rows =
    let entries = entries_of rows in
    let apart : (i j : ℕ) (d : Entry) → i < j → j < length entries
    → same_row (get_or entries i d) (get_or entries j d) ≡ false =
    λ i j d order within.
    let first = row-entries_of rows i d (omega arith) in
    ne_eqb _ _ (λ same. omega (arith, same, first, row-entries_of rows j d within)) in
    IsDistinct-from_apart same_row entries apart

-- nor have two entries after the sort
entries-apart : (rows : List Row) (entries : List Entry) → IsPermutation (entries_of rows) entries
    → (i j : ℕ) (d : Entry) → i < j → j < length entries → (get_or entries i d).row ≢ (get_or entries j d).row
entries-apart rows entries moved i j d order within =
    let symmetric = λ (x y : Entry). nat_eq_equiv.symm x.row y.row in
    let distinct =
    IsDistinct-IsPermutation same_row symmetric (entries_of rows) entries moved (IsDistinct-entries_of rows) in
    eqb-false _ _ (apart_from_distinct same_row entries i j d distinct order within)

-- each row has an entry there
entries-all : (rows : List Row) (entries : List Entry) → IsPermutation (entries_of rows) entries → (n : ℕ) (d : Row)
    → n < length rows → Contains entries (entry_of n (get_or rows n d))
entries-all rows entries moved n d within =
    let entry = entry_of n (get_or rows n d) in
    Contains-permutation (entries_of rows) entries entry moved
    (n, omega (arith, length-entries_of rows), get_or-entries_of rows n entry d within)

-- and the entries do not fall
entries-up : (entries : List Entry) → IsSorted entry_cmp entries → (i j : ℕ) (d : Entry) → i ≤ j → j < length entries
    → IsUpTo (get_or entries i d) (get_or entries j d)
entries-up entries sorted i j d order within =
    IsUpTo-from_order (get_or entries i d) (get_or entries j d)
    (sorted_far (λ x y. is_lt (entry_cmp x y)) (ranks_by entry_cmp-total (λ e. e)) entries sorted i j d order within)

-- what a sort leaves
AreSorted-sort : (rows : List Row) (entries : List Entry) → IsPermutation (entries_of rows) entries
    → IsSorted entry_cmp entries → AreSorted rows entries
AreSorted-sort rows entries moved sorted = record {
  each = All-permutation (IsEntryOf rows) (entries_of rows) entries moved (IsEntryOf-entries_of rows);
  all = entries-all rows entries moved;
  up = entries-up entries sorted;
  apart = entries-apart rows entries moved;
}

-- a key by its parts
same_fields : (k l : KeyValue) → k.order ≡ l.order → k.line ≡ l.line → k ≡ l
same_fields k l order line = grind arith

-- between two entries of one key the key stays, and the rows do not fall
between-same_key : (a b c : Entry) → IsUpTo a b → IsUpTo b c → HasSameKey a c → HasSameKey a b × (b.row ≤ c.row)
between-same_key a b c low high same =
    let same_order : a.key.order ≡ c.key.order = ap (λ (k : KeyValue). k.order) same in
    let same_line : a.key.line ≡ c.key.line = ap (λ (k : KeyValue). k.line) same in
    let order : a.key.order ≡ b.key.order = omega (arith, low.order, high.order) in
    let line : a.key.line ≡ b.key.line = omega (arith, low.line order, high.line (omega arith)) in
    let stays : a.key ≡ b.key = same_fields a.key b.key order line in
    (stays, high.row (sym stays ∙ same))

-- a later row's entry of the same key stands behind an earlier row's
entries-order : (rows : List Row) (entries : List Entry) → AreSorted rows entries → (a b z : Entry) (p q : ℕ)
    → p < length entries → q < length entries → get_or entries p z ≡ a → get_or entries q z ≡ b → HasSameKey a b
    → a.row < b.row → p < q
entries-order rows entries are a b z p q p_within q_within at_p at_q same later =
    elim (cases_lt p q) [
      | inl below ↦ below
      | inr above ↦
          let up : IsUpTo b a = rw (at_p, at_q) at (are.up q p z above p_within) in
          absurd (omega (arith, up.row (sym same), later))
    ]

-- the neighbour behind an earlier row's entry has its key, where a later row's entry has it
neighbour-same_key : (rows : List Row) (entries : List Entry) → AreSorted rows entries → (a b z : Entry) (p q : ℕ)
    → p < q → q < length entries → get_or entries p z ≡ a → get_or entries q z ≡ b → HasSameKey a b
    → HasSameKey (get_or entries p z) (get_or entries (p + 1) z) × ((get_or entries (p + 1) z).row ≤ b.row)
neighbour-same_key rows entries are a b z p q order within at_p at_q same =
    let at = λ (i : ℕ). get_or entries i z in
    let low = are.up p (p + 1) z (omega arith) (omega arith) in
    let high = are.up (p + 1) q z (omega arith) within in
    rw (← at_q) (between-same_key (at p) (at (p + 1)) (at q) low high (rw (at_p, at_q) same))

-- two rows with one key leave two neighbours with one key, of which the later row is not above theirs
tie-between : (rows : List Row) (entries : List Entry) → AreSorted rows entries → (i j : ℕ) (d : Row) → i < j
    → j < length rows → (get_or rows i d).0 ≡ (get_or rows j d).0
    → (k : ℕ) × (k + 1 < length entries)
    × ((z : Entry) → HasSameKey (get_or entries k z) (get_or entries (k + 1) z) × ((get_or entries (k + 1) z).row ≤ j))
tie-between rows entries are i j d order within same =
    let a : Entry = entry_of i (get_or rows i d) in
    let b : Entry = entry_of j (get_or rows j d) in
    let at_a = are.all i d (omega arith) in
    let at_b = are.all j d within in
    let at_p = λ (z : Entry). get_or_default entries at_a.0 z a at_a.1 ∙ at_a.2 in
    let at_q = λ (z : Entry). get_or_default entries at_b.0 z b at_b.1 ∙ at_b.2 in
    let p = at_a.0 in
    let q = at_b.0 in
    let behind : p < q = entries-order rows entries are a b a p q at_a.1 at_b.1 (at_p a) (at_q a) same order in
    let next = λ (z : Entry). neighbour-same_key rows entries are a b z p q behind at_b.1 (at_p z) (at_q z) same in
    (p, omega (arith, behind, at_b.1), next)

-- where the neighbours' keys differ, the rows' keys do
HasDistinctKeys-no_tie : (rows : List Row) (entries : List Entry) → AreSorted rows entries
    → HasNoTie entries (length entries) → HasDistinctKeys rows
HasDistinctKeys-no_tie rows entries are differ i j d order within same =
    let tie = tie-between rows entries are i j d order within same in
    let z : Entry = entry_of i (get_or rows i d) in
    differ tie.0 z tie.1 (tie.2 z).0

-- the keys before the least later row differ
HasDistinctKeys-before : (rows : List Row) (entries : List Entry) (later : ℕ) → AreSorted rows entries → Entry
    → AllAdjacentBelow (λ a b. HasSameKey a b → later ≤ b.row) entries (length entries)
    → HasDistinctKeys (take later rows)
HasDistinctKeys-before rows entries later are z least i j d order within same =
    let below : j < later = omega (arith, within, length-take later rows) in
    let i_below : i < later = omega arith in
    let keys = rw (get_or-take later rows i d i_below, get_or-take later rows j d below) at same in
    let tie = tie-between rows entries are i j d order (omega (arith, within, length-take later rows)) keys in
    omega (arith, least tie.0 z tie.1 (tie.2 z).0, (tie.2 z).1, below)

-- the rows of two entries with one key have one key
key-of_entries : (rows : List Row) (a b : Entry) (d : Row) → IsEntryOf rows a → IsEntryOf rows b → HasSameKey a b
    → (get_or rows a.row d).0 ≡ (get_or rows b.row d).0
key-of_entries rows a b d of_a of_b same =
    sym (ap (λ (e : Entry). e.key) (of_a.is d)) ∙ same ∙ ap (λ (e : Entry). e.key) (of_b.is d)

-- the least tie is the first repeat
IsFirstRepeat-least_tie : (rows : List Row) (entries : List Entry) (earlier later : ℕ) → AreSorted rows entries
    → IsLeastTie entries (length entries) earlier later → IsFirstRepeat rows earlier later
IsFirstRepeat-least_tie rows entries earlier later are tie =
    let z : Entry = record { key = record { order = 0; line = 0 }; row = 0 } in
    let first = are.each tie.place z (omega (arith, tie.within)) in
    let second = are.each (tie.place + 1) z tie.within in
    let up = are.up tie.place (tie.place + 1) z (omega arith) tie.within in
    let apart = are.apart tie.place (tie.place + 1) z (omega arith) tie.within in
    let first_row = tie.earlier_is z in
    let second_row = tie.later_is z in
    let same = tie.same z in
    record {
      order = omega (arith, up.row same, apart, first_row, second_row);
      within = omega (arith, second.within, second_row);
      same = λ d. rw (first_row, second_row) at
          (key-of_entries rows (get_or entries tie.place z) (get_or entries (tie.place + 1) z) d first second same);
      distinct = HasDistinctKeys-before rows entries later are z tie.least;
    }

-- what is found in the sorted entries
pub FindsFirstRepeat-least_tie : (rows : List Row) (entries : List Entry) (found : Option Repeat)
    → IsPermutation (entries_of rows) entries → IsSorted entry_cmp entries
    → FindsLeastTie entries (length entries) found → FindsFirstRepeat rows found
FindsFirstRepeat-least_tie rows entries None moved sorted least =
    HasDistinctKeys-no_tie rows entries (AreSorted-sort rows entries moved sorted) least
FindsFirstRepeat-least_tie rows entries (Some tie) moved sorted least =
    IsFirstRepeat-least_tie rows entries tie.earlier tie.later (AreSorted-sort rows entries moved sorted) least
