-- Entries in the order of their codes, and the live rows that these are.
use Rattle.std.proofs.Common.{◌≡◌, ◌≢◌, ℕ, zero, suc, ◌+◌, ◌-◌, ◌<◌, ◌≤◌, ◌==◌, List, [], ◌∷◌, length, map, get_or, refl, sym, ap, subst, ◌∙◌, inl, inr, arith}
use Rattle.std.specs.Prelude.{AllPairs, Contains, IsPermutation, slice_index}
use Rattle.std.specs.List.Sorted.{IsStrictlyIncreasing, IsNonDecreasingBy}
use Rattle.std.proofs.lemmas.Bool.{cases_lt, ne_eqb, eqb-false}
use Rattle.std.proofs.lemmas.Cmp.{nat_eq_equiv}
use Rattle.std.proofs.lemmas.List.{get_or-map, length-map}
use Rattle.std.proofs.lemmas.List.Sorted.{Contains-permutation, IsPermutation-sym, IsPermutation-map}
use Rattle.std.proofs.lemmas.Map.Keys.{apart_from_distinct, IsDistinct-from_apart, IsDistinct-IsPermutation}
use Rattle.unit_version.specs.declared.keys.entry.Entry.{Entry}
use Rattle.unit_version.specs.KeyedRow.{KeyedRow, by_row, AreApart}
use Rattle.unit_version.specs.Entry.{key_of_code, keyed, codes}
use Rattle.unit_version.proofs.KeyedRows.{Has, Has-by_row, by_row-Has, HasDistinctRows, Rises-by_row, same-Rises}

-- numbers that differ stay so in another order
distinct-permuted : {X : Type 0} (f : X → ℕ) (xs ys : List X) → IsPermutation xs ys
    → AllPairs (λ a b. f a ≢ f b) xs → AllPairs (λ a b. f a ≢ f b) ys
distinct-permuted {X} f xs ys moved apart i j d order within =
    let e = λ (x y : X). f x == f y in
    let before = IsDistinct-from_apart e xs (λ i j d order within. ne_eqb _ _ (apart i j d order within)) in
    let after = IsDistinct-IsPermutation e (λ x y. nat_eq_equiv.symm (f x) (f y)) xs ys moved before in
    eqb-false _ _ (apart_from_distinct e ys i j d after order within)

-- codes that differ and do not fall rise
pub rising-sorted : (old new : List Entry) → IsPermutation old new → AllPairs (λ a b. a.code ≢ b.code) old
    → IsNonDecreasingBy (λ e. e.code) new → IsStrictlyIncreasing (codes new)
rising-sorted old [] moved apart up k within = absurd (omega arith)
rising-sorted old (e ∷ entries) moved apart up k within =
    let new : List Entry = e ∷ entries in
    let code = λ (e : Entry). e.code in
    let long = length-map new code in
    let here = get_or-map code new k e 0 (omega arith) in
    let next = get_or-map code new (k + 1) e 0 (omega arith) in
    let other = distinct-permuted code old new moved apart k (k + 1) e (omega arith) (omega arith) in
    let below = up k (k + 1) e (omega arith) (omega arith) in
    omega (arith, here, next, other, below)

-- which live rows there are, by place
Contains-Has : (rows : List KeyedRow) (x : KeyedRow) → Has rows x → Contains rows x
Contains-Has [] x has = absurd has
Contains-Has (r ∷ rows) x (inl here) = (0, omega arith, here)
Contains-Has (r ∷ rows) x (inr there) =
    let at = Contains-Has rows x there in (suc at.0, omega (arith, at.1), at.2)

pub Has-get_or : (rows : List KeyedRow) (n : ℕ) (d : KeyedRow) → n < length rows → Has rows (get_or rows n d)
Has-get_or [] n d within = absurd (omega arith)
Has-get_or (r ∷ rows) zero d within = inl refl
Has-get_or (r ∷ rows) (suc n) d within = inr (Has-get_or rows n d (omega arith))

Has-Contains : (rows : List KeyedRow) (x : KeyedRow) → Contains rows x → Has rows x
Has-Contains rows x at = subst (Has rows) at.2 (Has-get_or rows at.0 x at.1)

-- another order has the same live rows
Has-permuted : (xs ys : List KeyedRow) (x : KeyedRow) → IsPermutation xs ys → Has xs x → Has ys x
Has-permuted xs ys x moved has = Has-Contains ys x (Contains-permutation xs ys x moved (Contains-Has xs x has))

-- rows that differ, one after another
pub HasDistinctRows-pairs : (rows : List KeyedRow) → AllPairs (λ a b. a.row ≢ b.row) rows → HasDistinctRows rows
HasDistinctRows-pairs [] apart = tt
HasDistinctRows-pairs (r ∷ rows) apart = (
  λ x has same. (let at = Contains-Has rows x has in
      apart 0 (suc at.0) x (omega arith) (omega (arith, at.1))
      (sym same ∙ ap (λ (y : KeyedRow). y.row) (sym at.2))),
  HasDistinctRows-pairs rows (λ i j d order within. apart (suc i) (suc j) d (omega arith) (omega arith)),
)

-- the order of rows is the same whatever the order was before
by_row-permuted : (xs ys : List KeyedRow) → IsPermutation xs ys → AllPairs (λ a b. a.row ≢ b.row) xs
    → by_row ys ≡ by_row xs
by_row-permuted xs ys moved apart =
    same-Rises (by_row ys) (by_row xs)
    (Rises-by_row ys (HasDistinctRows-pairs ys (distinct-permuted (λ (r : KeyedRow). r.row) xs ys moved apart)))
    (Rises-by_row xs (HasDistinctRows-pairs xs apart))
    (λ x has. by_row-Has xs x (Has-permuted ys xs x (IsPermutation-sym xs ys moved) (Has-by_row ys x has)))
    (λ x has. by_row-Has ys x (Has-permuted xs ys x moved (Has-by_row xs x has)))

-- so are the live rows of sorted entries
pub by_row-sorted : (rest : ℕ) (old new : List Entry) → IsPermutation old new → AreApart (map (keyed rest) old)
    → by_row (map (keyed rest) new) ≡ by_row (map (keyed rest) old)
by_row-sorted rest old new moved apart =
    by_row-permuted (map (keyed rest) old) (map (keyed rest) new) (IsPermutation-map (keyed rest) old new moved)
    (λ i j d order within. (apart i j d order within).0)

-- the codes of entries with different keys differ
pub codes-apart : (rest : ℕ) (entries : List Entry) → AreApart (map (keyed rest) entries)
    → AllPairs (λ a b. a.code ≢ b.code) entries
codes-apart rest entries apart i j d order within same =
    let f = keyed rest in
    let key = λ (r : KeyedRow). r.key in
    let of_i = get_or-map f entries i d (f d) (omega arith) in
    let of_j = get_or-map f entries j d (f d) within in
    (apart i j (f d) order (omega (arith, within, length-map entries f))).1
    (ap key of_i ∙ ap (key_of_code rest) same ∙ sym (ap key of_j))

-- the codes of an entry and the one before it
code-at : (entries : List Entry) (i : ℕ) (e : Entry) → i < length entries
    → slice_index (codes entries) i ≡ (get_or entries i e).code
code-at entries i e within = get_or-map (λ (e : Entry). e.code) entries i e 0 within

-- one code more rises
pub rising-more : (entries : List Entry) (i : ℕ) (a b : Entry) → 1 ≤ i → i < length entries
    → (get_or entries (i - 1) a).code < (get_or entries i b).code
    → ((k : ℕ) → k + 1 < i → slice_index (codes entries) k < slice_index (codes entries) (k + 1))
    → (k : ℕ) → k + 1 < i + 1 → slice_index (codes entries) k < slice_index (codes entries) (k + 1)
rising-more entries i a b some within below up k before = elim (cases_lt (k + 1) i) [
  | inl earlier ↦ up k earlier
  | inr last ↦
      let here : k ≡ i - 1 = omega arith in
      let next : i - 1 + 1 ≡ i = omega arith in
      rw (here, next, code-at entries (i - 1) a (omega arith), code-at entries i b within) below
]

-- where one does not, they do not
pub rising-not : (entries : List Entry) (i : ℕ) (a b : Entry) → 1 ≤ i → i < length entries
    → (get_or entries i b).code ≤ (get_or entries (i - 1) a).code → IsStrictlyIncreasing (codes entries) → ⊥
rising-not entries i a b some within low up =
    let next : i - 1 + 1 ≡ i = omega arith in
    let long = length-map entries (λ (e : Entry). e.code) in
    let above = rw next at (up (i - 1) (omega arith)) in
    omega (arith, above, code-at entries (i - 1) a (omega arith), code-at entries i b within)
