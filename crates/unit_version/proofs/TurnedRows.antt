-- Lists of truth values before deltas and after them.
use Rattle.std.proofs.Common.{◌≡◌, ℕ, zero, suc, ◌+◌, ◌<◌, ◌==◌, Bool, true, false, List, [], ◌∷◌, length, map, get_or, Option, Some, None, refl, sym, ap, subst, ◌∙◌, inl, inr, arith}
use Rattle.std.specs.List.{All, filter}
use Rattle.std.specs.List.Sorted.{IsStrictlyIncreasing}
use Rattle.std.proofs.lemmas.Bool.{cases_Bool, cases_eq}
use Rattle.std.proofs.lemmas.Bool.Decides.{nat_tests}
use Rattle.std.proofs.lemmas.List.{get_or_default}
use Rattle.std.proofs.lemmas.List.Elements.{All-filter, All-map}
use Rattle.cubit_base.specs.Table.{Row}
use Rattle.cubit_base.specs.LiveRow.{tuple_at}
use Rattle.cubit_base.specs.History.{after, IsHistory}
use Rattle.cubit_base.specs.declared.delta.Delta.{Delta}
use Rattle.column_bins.specs.declared.column.Column.{Column}
use Rattle.column_bins.specs.Column.{tuple_bin}
use Rattle.wah_words.specs.Rows.{IsToggled, differs, has}
use Rattle.unit_version.specs.Changes.{AreRowChanges, change_of_row, row_bit, turned_rows, turns}
use Rattle.unit_version.specs.Content.{is_live, is_in_bins, one_bin}
use Rattle.unit_version.specs.declared.changes.row.RowChange.{RowChange}
use Rattle.unit_version.specs.declared.unit.Unit.{Unit as IndexUnit}
use Rattle.unit_version.specs.declared.unit.Unit.TheVariants as unit
use Rattle.unit_version.proofs.Digests.{found-or-missing}
use Rattle.unit_version.proofs.Rising.{rising-first, rising-tail}
use Rattle.unit_version.proofs.RowBits.{same-bin}
use Rattle.unit_version.proofs.RowStates.{RowLaws, row-state}

-- a first number below the others
rising-cons : (x : ℕ) (xs : List ℕ) → All (λ y. x < y) xs → IsStrictlyIncreasing xs → IsStrictlyIncreasing (x ∷ xs)
rising-cons x xs above up zero within = above 0 0 (omega arith)
rising-cons x xs above up (suc k) within =
    let next : suc k + 1 ≡ suc (k + 1) = omega arith in
    let here = up k (omega arith) in
    rw next here

above-first : (x : ℕ) (xs : List ℕ) → IsStrictlyIncreasing (x ∷ xs) → All (λ y. x < y) xs
above-first x xs up k d low = subst (λ y. x < y) (get_or_default xs k 0 d low) (rising-first x xs up k low)

-- what holds of the rows of all changes
pub turned-All : (P : ℕ → Type 0) (u : IndexUnit) (changes : List RowChange) → All (λ c. P c.row) changes
    → All P (turned_rows u changes)
turned-All P u changes all =
    All-map P (λ (c : RowChange). c.row) (filter (turns u) changes)
    (All-filter (turns u) (λ (c : RowChange). P c.row) changes all)

rows-All : (P : ℕ → Type 0) (changes : List RowChange) → All P (map (λ c. c.row) changes) → All (λ c. P c.row) changes
rows-All P [] all k d low = absurd (omega arith)
rows-All P (c ∷ changes) all zero d low = all 0 0 (omega arith)
rows-All P (c ∷ changes) all (suc k) d low =
    rows-All P changes (λ j e j_low. all (suc j) e (omega arith)) k d (omega arith)

-- the rows that are turned rise
pub rising-turned : (u : IndexUnit) (changes : List RowChange) → IsStrictlyIncreasing (map (λ c. c.row) changes)
    → IsStrictlyIncreasing (turned_rows u changes)
rising-turned u [] up = λ k low. absurd (omega arith)
rising-turned u (c ∷ changes) up =
    let rows = map (λ (c : RowChange). c.row) changes in
    let rest = rising-turned u changes (rising-tail c.row rows up) in
    elim (cases_Bool (turns u c)) [
      | inl turned ↦ rw turned (rising-cons c.row (turned_rows u changes)
          (turned-All (λ y. c.row < y) u changes (rows-All (λ y. c.row < y) changes (above-first c.row rows up))) rest)
      | inr stays ↦ rw stays rest
    ]

-- a row before all changes is not turned
has-none : (u : IndexUnit) (changes : List RowChange) (n : ℕ) → All (λ c. n < c.row) changes
    → has (turned_rows u changes) n ≡ false
has-none u [] n above = refl
has-none u (c ∷ changes) n above =
    let first : n < c.row = above 0 c (omega arith) in
    let other : (c.row == n) ≡ false = grind (arith, nat_tests) in
    let rest = has-none u changes n (λ k d low. above (suc k) d (omega arith)) in
    elim (cases_Bool (turns u c)) [ inl turned ↦ rw (turned, other) rest | inr stays ↦ rw stays rest ]

-- a row is turned where its change turns it
abbrev turned_in : IndexUnit → Option RowChange → Bool
turned_in u None = false
turned_in u (Some c) = turns u c

has-turned : (u : IndexUnit) (changes : List RowChange) (n : ℕ) → IsStrictlyIncreasing (map (λ c. c.row) changes)
    → has (turned_rows u changes) n ≡ turned_in u (change_of_row n changes)
has-turned u [] n up = refl
has-turned u (c ∷ changes) n up =
    let rows = map (λ (c : RowChange). c.row) changes in
    let rest = has-turned u changes n (rising-tail c.row rows up) in
    elim (cases_eq c.row n) [
      | inl is ↦
          let here : (c.row == n) ≡ true = grind (arith, nat_tests) in
          let above = rows-All (λ y. c.row < y) changes (above-first c.row rows up) in
          let behind : has (turned_rows u changes) n ≡ false =
          has-none u changes n (subst (λ m. All (λ (e : RowChange). m < e.row) changes) is above) in
          elim (cases_Bool (turns u c)) [
            | inl turned ↦ rw (here, turned, here) refl
            | inr stays ↦ rw (here, stays) behind
          ]
      | inr other ↦
          let away : (c.row == n) ≡ false = grind (arith, nat_tests) in
          elim (cases_Bool (turns u c)) [
            | inl turned ↦ rw (away, turned, away) rest
            | inr stays ↦ rw (away, stays) rest
          ]
    ]

-- the truth value of a row, and false past the end
pub row_bit-none : (u : IndexUnit) → row_bit u None ≡ false
row_bit-none unit.Live = refl
row_bit-none (unit.Bin column bin) = refl
row_bit-none (unit.Page page) = refl
row_bit-none (unit.Keys rest) = refl

bit-at : (u : IndexUnit) (f : Row → Bool) → ((r : Row) → f r ≡ row_bit u r.1) → (table : List Row) (n : ℕ)
    → get_or (map f table) n false ≡ row_bit u (tuple_at table n)
bit-at u f is [] n = sym (row_bit-none u)
bit-at u f is (r ∷ table) zero = is r
bit-at u f is (r ∷ table) (suc n) = bit-at u f is table n

turned-twice : (a b : Bool) → b ≡ differs a (differs a b)
turned-twice true true = refl
turned-twice true false = refl
turned-twice false true = refl
turned-twice false false = refl

not-turned : (a : Bool) → a ≡ differs a false
not-turned true = refl
not-turned false = refl

-- the rows that change are below the rows after the deltas
pub rows-below : RowLaws → (limit : ℕ) (table : List Row) (h : List Delta) (changes : List RowChange)
    → IsHistory limit table h → AreRowChanges h changes → All (λ c. c.row < length (after table h)) changes
rows-below laws limit table h changes lawful are k d low =
    let n = (get_or changes k d).row in
    elim (row-state laws limit table h changes n lawful are) [
      | inl changed ↦ changed.within
      | inr kept ↦ elim (found-or-missing (λ (c : RowChange). c.row) (λ (c : RowChange). c.row) n changes changes refl
          (λ j e f j_low. ap (λ (c : RowChange). c.row) (get_or_default changes j f e j_low))) [
            | inl found ↦ (let some = sym kept.found ∙ found.finds d in absurd cc)
            | inr missing ↦ absurd (missing.nowhere k d low refl)
          ]
    ]

-- the list after deltas is that before them with the turned rows turned
pub IsToggled-after : RowLaws → (limit : ℕ) (u : IndexUnit) (f : Row → Bool) → ((r : Row) → f r ≡ row_bit u r.1)
    → (table : List Row) (h : List Delta) (changes : List RowChange) → IsHistory limit table h
    → AreRowChanges h changes → IsToggled (map f table) (turned_rows u changes) (map f (after table h))
IsToggled-after laws limit u f is table h changes lawful are = record {
  each = λ n. elim (row-state laws limit table h changes n lawful are) [
    | inl changed ↦
        rw (
          bit-at u f is table n,
          bit-at u f is (after table h) n,
          has-turned u changes n are.rising,
          changed.found,
          changed.before,
          changed.after,
        )
        (turned-twice (row_bit u changed.change.before) (row_bit u changed.change.after))
    | inr kept ↦
        rw (
          bit-at u f is table n,
          bit-at u f is (after table h) n,
          has-turned u changes n are.rising,
          kept.found,
          kept.same,
        )
        (not-turned (row_bit u (tuple_at table n)))
  ];
}

-- the truth values of units, by their tuples
pub live-bit : (r : Row) → is_live r ≡ row_bit unit.Live r.1
live-bit r = refl

pub bin-bit : (column : Column) (bin : ℕ) (r : Row)
    → is_in_bins column (one_bin bin) r ≡ row_bit (unit.Bin column bin) r.1
bin-bit column bin (key, None) = refl
bin-bit column bin (key, Some t) = sym (same-bin (tuple_bin column t) bin)
