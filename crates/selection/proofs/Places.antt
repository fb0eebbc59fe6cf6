-- The places of true rows.
use Rattle.std.proofs.Common.{◌≡◌, ℕ, zero, suc, ◌+◌, ◌<◌, ◌≤◌, ◌∙◌, ◌||◌, Bool, true, false, cond, List, [], ◌∷◌, ◌++◌, length, map, get_or, All, Option, refl, sym, ap, arith, filter}
use Rattle.std.proofs.lemmas.Bool.{eq-eqb, ne_eqb}
use Rattle.std.proofs.lemmas.List.{length-map, map-append}
use Rattle.std.proofs.lemmas.List.Elements.{All-nil, All-cons}
use Rattle.cubit_base.specs.Table.{Row}
use Rattle.cubit_base.specs.Tuple.{TupleValue}
use Rattle.cubit_base.specs.LiveRow.{tuple_at}
use Rattle.unit_version.specs.Content.{tuples_from}
use Rattle.wah_words.specs.Rows.{has, true_places}
use Rattle.selection.proofs.Tuples.{from-add, from-length}

pub places-append : (first : ℕ) (a b : List Bool) →
    true_places first (a ++ b) ≡ true_places first a ++ true_places (first + length a) b
unfolding true_places
places-append first [] b =
    let here : first ≡ first + length {A = Bool} [] = omega arith in
    ap (λ n. true_places n b) here
places-append first (true ∷ a) b =
    let next : first + 1 + length a ≡ first + length (true ∷ a) = omega arith in
    ap (λ ps. first ∷ ps) (places-append (first + 1) a b ∙ ap (λ n. true_places (first + 1) a ++ true_places n b) next)
places-append first (false ∷ a) b =
    let next : first + 1 + length a ≡ first + length (false ∷ a) = omega arith in
    places-append (first + 1) a b ∙ ap (λ n. true_places (first + 1) a ++ true_places n b) next

pub places-shift : (base first : ℕ) (rows : List Bool) →
    map (λ place. base + place) (true_places first rows) ≡ true_places (base + first) rows
unfolding true_places
places-shift base first [] = refl
places-shift base first (true ∷ rows) =
    let next : base + (first + 1) ≡ base + first + 1 = omega arith in
    ap (λ ps. (base + first) ∷ ps) (places-shift base (first + 1) rows ∙ ap (λ n. true_places n rows) next)
places-shift base first (false ∷ rows) =
    let next : base + (first + 1) ≡ base + first + 1 = omega arith in
    places-shift base (first + 1) rows ∙ ap (λ n. true_places n rows) next

pub places-below : (first : ℕ) (rows : List Bool) → All (λ place. place < first + length rows) (true_places first rows)
unfolding true_places
places-below first [] = All-nil (λ place. place < first + 0)
places-below first (true ∷ rows) =
    All-cons (λ place. place < first + length (true ∷ rows)) first (true_places (first + 1) rows) (omega arith)
    (λ k d within. omega (arith, places-below (first + 1) rows k d within))
places-below first (false ∷ rows) = λ k d within. omega (arith, places-below (first + 1) rows k d within)

-- the tuples at the places of those that pass
pub places-tuples : (test : Option TupleValue → Bool) (table : List Row) (row first n : ℕ) →
    map (λ place. tuple_at table (row + place)) (true_places first (map test (tuples_from table (row + first) n)))
    ≡ filter test (tuples_from table (row + first) n)
unfolding true_places tuples_from
places-tuples test table row first zero = refl
places-tuples test table row first (suc n) =
    let here = row + first in
    let next : row + (first + 1) ≡ here + 1 = omega arith in
    let rest : map (λ place. tuple_at table (row + place))
    (true_places (first + 1) (map test (tuples_from table (here + 1) n)))
    ≡ filter test (tuples_from table (here + 1) n) =
    ap (λ k. map (λ place. tuple_at table (row + place))
    (true_places (first + 1) (map test (tuples_from table k n)))) (sym next)
    ∙ places-tuples test table row (first + 1) n
    ∙ ap (λ k. filter test (tuples_from table k n)) next in
    kept (test (tuple_at table here)) (true_places (first + 1) (map test (tuples_from table (here + 1) n)))
    (filter test (tuples_from table (here + 1) n)) rest where
      kept : (b : Bool) (ps : List ℕ) (ts : List (Option TupleValue)) →
          map (λ place. tuple_at table (row + place)) ps ≡ ts →
          map (λ place. tuple_at table (row + place)) (cond b (first ∷ ps) ps)
          ≡ cond b (tuple_at table (row + first) ∷ ts) ts
      kept true ps ts same = ap (λ xs. tuple_at table (row + first) ∷ xs) same
      kept false ps ts same = same

past-place : (rows : List Bool) (first row : ℕ) → row < first → has (true_places first rows) row ≡ false
unfolding true_places
past-place [] first row before = refl
past-place (true ∷ rows) first row before =
    ap (λ b. b || has (true_places (first + 1) rows) row) (ne_eqb first row (λ e. omega (arith, e, before)))
    ∙ past-place rows (first + 1) row (omega (arith, before))
past-place (false ∷ rows) first row before = past-place rows (first + 1) row (omega (arith, before))

-- a row is one of the places where it is true
pub places-has : (first : ℕ) (rows : List Bool) (row : ℕ) →
    has (true_places first rows) (first + row) ≡ get_or rows row false
unfolding true_places
places-has first [] row = refl
places-has first (true ∷ rows) zero =
    ap (λ b. b || has (true_places (first + 1) rows) (first + zero)) (eq-eqb first (first + zero) (omega arith))
places-has first (false ∷ rows) zero = past-place rows (first + 1) (first + zero) (omega arith)
places-has first (true ∷ rows) (suc row) =
    let next : first + suc row ≡ first + 1 + row = omega arith in
    ap (λ b. b || has (true_places (first + 1) rows) (first + suc row))
    (ne_eqb first (first + suc row) (λ e. omega (arith, e)))
    ∙ ap (has (true_places (first + 1) rows)) next ∙ places-has (first + 1) rows row
places-has first (false ∷ rows) (suc row) =
    let next : first + suc row ≡ first + 1 + row = omega arith in
    ap (has (true_places (first + 1) rows)) next ∙ places-has (first + 1) rows row

pub places-few : (first : ℕ) (rows : List Bool) → length (true_places first rows) ≤ length rows
unfolding true_places
places-few first [] = omega arith
places-few first (true ∷ rows) =
    let one = ap (λ (n : ℕ). n) (length-cons first (true_places (first + 1) rows)) in
    omega (arith, one, length-cons true rows, places-few (first + 1) rows) where
      length-cons : {X : Type 0} (x : X) (xs : List X) → length (x ∷ xs) ≡ suc (length xs)
      length-cons x xs = refl
places-few first (false ∷ rows) = omega (arith, places-few (first + 1) rows)

-- the places of one page more, or of one block of 32 pages more
pub places-more : (test : Option TupleValue → Bool) (table : List Row) (row a b next : ℕ) → row + a ≡ next →
    true_places row (map test (tuples_from table row (a + b)))
    ≡ true_places row (map test (tuples_from table row a)) ++ true_places next (map test (tuples_from table next b))
places-more test table row a b next is =
    let ts = tuples_from table row a in
    let long = length-map ts test ∙ from-length table row a in
    ap (λ xs. true_places row (map test xs)) (from-add table row a b)
    ∙ ap (true_places row) (map-append test ts (tuples_from table (row + a) b))
    ∙ places-append row (map test ts) (map test (tuples_from table (row + a) b))
    ∙ ap (λ n. true_places row (map test ts) ++ true_places (row + n) (map test (tuples_from table (row + a) b))) long
    ∙ ap (λ n. true_places row (map test ts) ++ true_places n (map test (tuples_from table n b))) is

pub places-none : (test : Option TupleValue → Bool) (table : List Row) (row : ℕ) →
    true_places row (map test (tuples_from table row 0)) ≡ []
unfolding true_places tuples_from
places-none test table row = refl
