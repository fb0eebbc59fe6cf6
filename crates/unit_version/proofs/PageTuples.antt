-- The tuples of a stretch of rows.
use Rattle.std.proofs.Common.{◌<◌, slice_get, Some, ◌≡◌, ℕ, zero, suc, ◌+◌, List, [], ◌∷◌, ◌++◌, length, refl, ap, arith}
use Rattle.cubit_base.specs.Table.{Row}
use Rattle.cubit_base.specs.LiveRow.{tuple_at}
use Rattle.unit_version.specs.Content.{tuples_from}

-- as many tuples as rows
pub length-tuples_from : (table : List Row) (row n : ℕ) → length (tuples_from table row n) ≡ n
unfolding tuples_from
length-tuples_from table row zero = refl
length-tuples_from table row (suc n) = ap suc (length-tuples_from table (row + 1) n)

-- one row more
pub tuples_from-more : (table : List Row) (row n : ℕ)
    → tuples_from table row n ++ tuple_at table (row + n) ∷ [] ≡ tuples_from table row (n + 1)
unfolding tuples_from
tuples_from-more table row zero = let at : row + 0 ≡ row = omega arith in rw at refl
tuples_from-more table row (suc n) =
    let at : row + suc n ≡ row + 1 + n = omega arith in
    let next : suc n + 1 ≡ suc (n + 1) = omega arith in
    rw (at, next) (ap (λ tuples. tuple_at table row ∷ tuples) (tuples_from-more table (row + 1) n))

-- none of no rows
pub tuples_from-none : (table : List Row) (row : ℕ) → tuples_from table row 0 ≡ []
unfolding tuples_from
tuples_from-none table row = refl

-- each of them
pub slice_get-tuples_from : (table : List Row) (row n i : ℕ) → i < n
    → slice_get (tuples_from table row n) i ≡ Some (tuple_at table (row + i))
unfolding tuples_from
slice_get-tuples_from table row zero i low = absurd (omega arith)
slice_get-tuples_from table row (suc n) zero low = let at : row + 0 ≡ row = omega arith in rw at refl
slice_get-tuples_from table row (suc n) (suc i) low =
    let at : row + suc i ≡ row + 1 + i = omega arith in
    rw at (slice_get-tuples_from table (row + 1) n i (omega arith))
