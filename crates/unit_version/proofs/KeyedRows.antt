-- Live rows under their keys, in the order of rows and in that of keys.
use Rattle.std.proofs.Common.{◌≡◌, ◌≢◌, ◌⊎◌, ◌<◌, true, nat_lt, List, [], ◌∷◌, Some, None, refl, sym, ap, subst, ◌∙◌, inl, inr, arith}
use Rattle.std.proofs.lemmas.Bool.{cases_Bool}
use Rattle.std.proofs.lemmas.Bool.Decides.{nat_tests}
use Rattle.cubit_base.specs.Key.{KeyValue, same_key}
use Rattle.unit_version.specs.KeyedRow.{KeyedRow, row_of_key, with_keyed, by_row}

-- the list has this one
abbrev pub Has : List KeyedRow → KeyedRow → Type 0
Has [] x = ⊥
Has (r ∷ rows) x = (r ≡ x) ⊎ Has rows x

-- one more in the order of rows is one more
pub Has-with_keyed : (r : KeyedRow) (rows : List KeyedRow) (x : KeyedRow) → Has (with_keyed r rows) x
    → (r ≡ x) ⊎ Has rows x
Has-with_keyed r [] x has = has
Has-with_keyed r (s ∷ rows) x has = elim (cases_Bool (nat_lt s.row r.row)) [
  | inl before ↦
      let either : (s ≡ x) ⊎ Has (with_keyed r rows) x = rw before at has in
      elim either [
        | inl here ↦ inr (inl here)
        | inr there ↦ elim (Has-with_keyed r rows x there) [ inl new ↦ inl new | inr old ↦ inr (inr old) ]
      ]
  | inr behind ↦ rw behind at has
]

pub with_keyed-Has : (r : KeyedRow) (rows : List KeyedRow) (x : KeyedRow) → (r ≡ x) ⊎ Has rows x
    → Has (with_keyed r rows) x
with_keyed-Has r [] x has = has
with_keyed-Has r (s ∷ rows) x (inl new) = elim (cases_Bool (nat_lt s.row r.row)) [
  | inl before ↦ rw before (inr (with_keyed-Has r rows x (inl new)))
  | inr behind ↦ rw behind (inl new)
]
with_keyed-Has r (s ∷ rows) x (inr (inl here)) = elim (cases_Bool (nat_lt s.row r.row)) [
  | inl before ↦ rw before (inl here)
  | inr behind ↦ rw behind (inr (inl here))
]
with_keyed-Has r (s ∷ rows) x (inr (inr there)) = elim (cases_Bool (nat_lt s.row r.row)) [
  | inl before ↦ rw before (inr (with_keyed-Has r rows x (inr there)))
  | inr behind ↦ rw behind (inr (inr there))
]

-- the order of rows changes nothing else
pub Has-by_row : (rows : List KeyedRow) (x : KeyedRow) → Has (by_row rows) x → Has rows x
Has-by_row [] x has = has
Has-by_row (r ∷ rows) x has = elim (Has-with_keyed r (by_row rows) x has) [
  | inl here ↦ inl here
  | inr there ↦ inr (Has-by_row rows x there)
]

pub by_row-Has : (rows : List KeyedRow) (x : KeyedRow) → Has rows x → Has (by_row rows) x
by_row-Has [] x has = has
by_row-Has (r ∷ rows) x (inl here) = with_keyed-Has r (by_row rows) x (inl here)
by_row-Has (r ∷ rows) x (inr there) = with_keyed-Has r (by_row rows) x (inr (by_row-Has rows x there))

-- keys are the same where the test says so
pub same_key-true : (a b : KeyValue) → same_key a b ≡ true → a ≡ b
same_key-true a b same = grind (arith, nat_tests)

pub same_key-refl : (a : KeyValue) → same_key a a ≡ true
same_key-refl a = grind (arith, nat_tests)

-- a key that none has is not found
pub row_of_key-none : (rows : List KeyedRow) (key : KeyValue) → ((x : KeyedRow) → Has rows x → x.key ≢ key)
    → row_of_key rows key ≡ None
row_of_key-none [] key none = refl
row_of_key-none (r ∷ rows) key none = elim (cases_Bool (same_key r.key key)) [
  | inl same ↦ absurd (none r (inl refl) (same_key-true r.key key same))
  | inr other ↦ rw other (row_of_key-none rows key (λ x has. none x (inr has)))
]

-- the only one with a key is found under it
pub row_of_key-found : (rows : List KeyedRow) (x : KeyedRow) → Has rows x
    → ((y : KeyedRow) → Has rows y → y.key ≡ x.key → y ≡ x) → row_of_key rows x.key ≡ Some (x.row, x.tuple)
row_of_key-found [] x has only = absurd has
row_of_key-found (r ∷ rows) x has only = elim (cases_Bool (same_key r.key x.key)) [
  | inl same ↦
      let is : r ≡ x = only r (inl refl) (same_key-true r.key x.key same) in
      rw same (ap (λ (r : KeyedRow). Some (r.row, r.tuple)) is)
  | inr other ↦ elim has [
    | inl here ↦ absurd (cc (other, here, same_key-refl x.key))
    | inr there ↦ rw other (row_of_key-found rows x there (λ y has. only y (inr has)))
  ]
]

-- each row stands before those with higher numbers
abbrev pub Rises : List KeyedRow → Type 0
Rises [] = Unit {0}
Rises (r ∷ rows) = ((x : KeyedRow) → Has rows x → r.row < x.row) × Rises rows

-- no two have one row
abbrev pub HasDistinctRows : List KeyedRow → Type 0
HasDistinctRows [] = Unit {0}
HasDistinctRows (r ∷ rows) = ((x : KeyedRow) → Has rows x → x.row ≢ r.row) × HasDistinctRows rows

-- one more in its place
Rises-with_keyed : (r : KeyedRow) (rows : List KeyedRow) → Rises rows → ((x : KeyedRow) → Has rows x → x.row ≢ r.row)
    → Rises (with_keyed r rows)
Rises-with_keyed r [] rises new = (λ x has. absurd has, tt)
Rises-with_keyed r (s ∷ rows) rises new = elim (cases_Bool (nat_lt s.row r.row)) [
  | inl before ↦
      let below : s.row < r.row = grind (arith, nat_tests) in
      rw before (
        λ x has. elim (Has-with_keyed r rows x has) [
          | inl is ↦ subst (λ (y : KeyedRow). s.row < y.row) is below
          | inr there ↦ rises.0 x there
        ],
        Rises-with_keyed r rows rises.1 (λ x has. new x (inr has)),
      )
  | inr behind ↦
      let other = new s (inl refl) in
      let below : r.row < s.row = grind (arith, nat_tests, other) in
      rw behind (
        λ x has. elim has [
          | inl is ↦ subst (λ (y : KeyedRow). r.row < y.row) is below
          | inr there ↦ (let far = rises.0 x there in omega arith)
        ],
        rises,
      )
]

-- the order of rows is one
pub Rises-by_row : (rows : List KeyedRow) → HasDistinctRows rows → Rises (by_row rows)
Rises-by_row [] distinct = tt
Rises-by_row (r ∷ rows) distinct =
    Rises-with_keyed r (by_row rows) (Rises-by_row rows distinct.1) (λ x has. distinct.0 x (Has-by_row rows x has))

-- rows in order are told by which they are
pub same-Rises : (xs ys : List KeyedRow) → Rises xs → Rises ys → ((x : KeyedRow) → Has xs x → Has ys x)
    → ((x : KeyedRow) → Has ys x → Has xs x) → xs ≡ ys
same-Rises [] [] up_x up_y to from = refl
same-Rises [] (y ∷ ys) up_x up_y to from = absurd (from y (inl refl))
same-Rises (x ∷ xs) [] up_x up_y to from = absurd (to x (inl refl))
same-Rises (x ∷ xs) (y ∷ ys) up_x up_y to from =
    let first = first-Rises x y xs ys up_x up_y (to x (inl refl)) (from y (inl refl)) in
    let rest = same-Rises xs ys up_x.1 up_y.1
    (λ z has. later x y xs ys z first up_x.0 has (to z (inr has)))
    (λ z has. later y x ys xs z (sym first) up_y.0 has (from z (inr has))) in
    cc (first, rest)
  where
    first-Rises : (x y : KeyedRow) (xs ys : List KeyedRow) → Rises (x ∷ xs) → Rises (y ∷ ys) → Has (y ∷ ys) x
        → Has (x ∷ xs) y → x ≡ y
    first-Rises x y xs ys up_x up_y (inl is) other = sym is
    first-Rises x y xs ys up_x up_y (inr there) (inl is) = is
    first-Rises x y xs ys up_x up_y (inr there) (inr other) =
        let above = up_y.0 x there in
        let below = up_x.0 y other in
        absurd (omega arith)

    later : (x y : KeyedRow) (xs ys : List KeyedRow) (z : KeyedRow) → x ≡ y
        → ((w : KeyedRow) → Has xs w → x.row < w.row) → Has xs z → Has (y ∷ ys) z → Has ys z
    later x y xs ys z same up there (inl is) =
        let below = up z there in
        let row : x.row ≡ z.row = ap (λ (r : KeyedRow). r.row) (same ∙ is) in
        absurd (omega arith)
    later x y xs ys z same up there (inr has) = has
