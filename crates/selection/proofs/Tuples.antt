-- The tuples of a table, row after row.
use Rattle.std.proofs.Common.{◌≡◌, ℕ, zero, suc, ◌+◌, ◌-◌, ◌*◌, ◌<◌, ◌≤◌, ◌∙◌, Bool, true, false, cond, List, [], ◌∷◌, ◌++◌, length, map, replicate, get_or, All, Option, None, refl, sym, ap, arith, filter, sum_by, count_by}
use Rattle.std.proofs.lemmas.List.Folds.{sum_by-replicate}
use Rattle.std.proofs.lemmas.List.Sums.{sum_by-append, sum_by-cons, count_by-le-length}
use Rattle.cubit_base.specs.Table.{Row}
use Rattle.cubit_base.specs.Tuple.{TupleValue}
use Rattle.cubit_base.specs.LiveRow.{tuple_at}
use Rattle.unit_version.specs.Content.{tuples_from}

pub from-length : (table : List Row) (row n : ℕ) → length (tuples_from table row n) ≡ n
unfolding tuples_from
from-length table row zero = refl
from-length table row (suc n) = ap suc (from-length table (row + 1) n)

pub from-at : (table : List Row) (row n i : ℕ) → i < n →
    get_or (tuples_from table row n) i None ≡ tuple_at table (row + i)
unfolding tuples_from
from-at table row zero i within = absurd (omega (arith, within))
from-at table row (suc n) zero within = ap (tuple_at table) (omega arith)
from-at table row (suc n) (suc i) within =
    from-at table (row + 1) n i (omega (arith, within)) ∙ ap (tuple_at table) (omega arith)

-- one stretch of rows behind another
pub from-add : (table : List Row) (row a b : ℕ) →
    tuples_from table row (a + b) ≡ tuples_from table row a ++ tuples_from table (row + a) b
unfolding tuples_from
from-add table row zero b =
    let none : zero + b ≡ b = omega arith in
    let here : row ≡ row + zero = omega arith in
    ap (tuples_from table row) none ∙ ap (λ n. tuples_from table n b) here
from-add table row (suc a) b =
    let more : suc a + b ≡ suc (a + b) = omega arith in
    let next : row + 1 + a ≡ row + suc a = omega arith in
    ap (tuples_from table row) more
    ∙ ap (λ ts. tuple_at table row ∷ ts) (from-add table (row + 1) a b
    ∙ ap (λ n. tuples_from table (row + 1) a ++ tuples_from table n b) next)

-- all rows, and what lies behind them
from-none : (row n : ℕ) → tuples_from [] row n ≡ replicate n None
unfolding tuples_from
from-none row zero = refl
from-none row (suc n) = ap (λ ts. None ∷ ts) (from-none (row + 1) n)

from-tail : (r : Row) (table : List Row) (row n : ℕ) → tuples_from (r ∷ table) (suc row) n ≡ tuples_from table row n
unfolding tuples_from
from-tail r table row zero = refl
from-tail r table row (suc n) =
    let next : suc row + 1 ≡ suc (row + 1) = omega arith in
    ap (λ ts. tuple_at table row ∷ ts)
    (ap (λ k. tuples_from (r ∷ table) k n) next ∙ from-tail r table (row + 1) n)

pub from-all : (table : List Row) (past : ℕ) →
    tuples_from table 0 (length table + past) ≡ map (λ r. r.1) table ++ replicate past None
unfolding tuples_from
from-all [] past = let none : 0 + past ≡ past = omega arith in ap (tuples_from [] 0) none ∙ from-none 0 past
from-all (r ∷ table) past =
    let more : length (r ∷ table) + past ≡ suc (length table + past) = omega arith in
    let one : 0 + 1 ≡ 1 = omega arith in
    ap (tuples_from (r ∷ table) 0) more
    ∙ ap (λ ts. r.1 ∷ ts) (ap (λ k. tuples_from (r ∷ table) k (length table + past)) one
    ∙ from-tail r table 0 (length table + past) ∙ from-all table past)

-- ---- sums over them

sum-map : {X Y : Type 0} (f : Y → ℕ) (g : X → Y) (xs : List X) → sum_by f (map g xs) ≡ sum_by (λ x. f (g x)) xs
sum-map f g [] = refl
sum-map f g (x ∷ xs) =
    sum_by-cons f (g x) (map g xs) ∙ ap (λ n. f (g x) + n) (sum-map f g xs) ∙ sym (sum_by-cons (λ x. f (g x)) x xs)

pub sum-all : (f : Option TupleValue → ℕ) (table : List Row) (n : ℕ) → f None ≡ 0 → length table ≤ n →
    sum_by f (tuples_from table 0 n) ≡ sum_by (λ r. f r.1) table
sum-all f table n none past =
    let more = n - length table in
    let long : n ≡ length table + more = omega (arith, past) in
    ap (λ k. sum_by f (tuples_from table 0 k)) long
    ∙ ap (sum_by f) (from-all table more)
    ∙ sum_by-append f (map (λ r. r.1) table) (replicate more None)
    ∙ ap (λ k. sum_by f (map (λ r. r.1) table) + k) (sum_by-replicate f more None ∙ ap (λ k. more * k) none)
    ∙ sum-end (sum_by f (map (λ r. r.1) table)) more
    ∙ sum-map f (λ r. r.1) table where
      sum-end : (a b : ℕ) → a + b * 0 ≡ a
      sum-end a b = omega arith

-- where those that do not pass add nothing, it is enough to add up those that do
pub sum-filter : {X : Type 0} (f : X → ℕ) (test : X → Bool) (xs : List X) →
    All (λ x. test x ≡ false → f x ≡ 0) xs → sum_by f (filter test xs) ≡ sum_by f xs
sum-filter f test [] none = refl
sum-filter f test (x ∷ xs) none =
    sum-kept (test x) x (filter test xs) (none 0 x (omega arith))
    ∙ ap (λ n. f x + n) (sum-filter f test xs (λ k d within. none (suc k) d (omega (arith, within))))
    ∙ sym (sum_by-cons f x xs) where
      sum-kept : (b : Bool) (y : _) (ys : List _) → (b ≡ false → f y ≡ 0) →
          sum_by f (cond b (y ∷ ys) ys) ≡ f y + sum_by f ys
      sum-kept true y ys none = sum_by-cons f y ys
      sum-kept false y ys none = omega (arith, none refl)

-- none of them passes
pub count-none : (test : Option TupleValue → Bool) (table : List Row) (row n : ℕ) →
    ((i : ℕ) → i < n → test (tuple_at table (row + i)) ≡ false) → count_by test (tuples_from table row n) ≡ 0
unfolding tuples_from
count-none test table row zero none = refl
count-none test table row (suc n) none =
    let here : row + 0 ≡ row = omega arith in
    sum_by-cons (λ t. cond (test t) 1 0) (tuple_at table row) (tuples_from table (row + 1) n)
    ∙ ap (λ b. cond b 1 0 + count_by test (tuples_from table (row + 1) n))
    (ap (λ k. test (tuple_at table k)) (sym here) ∙ none 0 (omega arith))
    ∙ ap (λ k. 0 + k) (count-none test table (row + 1) n (λ i within.
    let next : row + 1 + i ≡ row + suc i = omega arith in
    ap (λ k. test (tuple_at table k)) next ∙ none (suc i) (omega (arith, within))))
    ∙ zero-sum where
      zero-sum : 0 + 0 ≡ 0
      zero-sum = omega arith

-- one stretch more
pub sum-more : (f : Option TupleValue → ℕ) (table : List Row) (first k : ℕ) →
    sum_by f (tuples_from table (3968 * first) (3968 * (k + 1)))
    ≡ sum_by f (tuples_from table (3968 * first) (3968 * k)) + sum_by f (tuples_from table (3968 * (first + k)) 3968)
sum-more f table first k =
    let more : 3968 * (k + 1) ≡ 3968 * k + 3968 = omega arith in
    let next : 3968 * first + 3968 * k ≡ 3968 * (first + k) = omega arith in
    ap (λ n. sum_by f (tuples_from table (3968 * first) n)) more
    ∙ ap (sum_by f) (from-add table (3968 * first) (3968 * k) 3968)
    ∙ sum_by-append f (tuples_from table (3968 * first) (3968 * k)) (tuples_from table (3968 * first + 3968 * k) 3968)
    ∙ ap (λ n. sum_by f (tuples_from table (3968 * first) (3968 * k)) + sum_by f (tuples_from table n 3968)) next

pub count-few : (test : Option TupleValue → Bool) (table : List Row) (row n : ℕ) →
    count_by test (tuples_from table row n) ≤ n
count-few test table row n = omega (arith, count_by-le-length test (tuples_from table row n), from-length table row n)

-- as many truth values are true as tuples pass
pub count-map : {X : Type 0} (test : X → Bool) (xs : List X) → count_by (λ b. b) (map test xs) ≡ count_by test xs
count-map test xs = sum-map (λ b. cond b 1 0) test xs

pub sum-none : (f : Option TupleValue → ℕ) (table : List Row) (row : ℕ) → sum_by f (tuples_from table row 0) ≡ 0
unfolding tuples_from
sum-none f table row = refl

-- a block more of 32 pages
pub sum-block : (f : Option TupleValue → ℕ) (table : List Row) (n : ℕ) →
    sum_by f (tuples_from table 0 (126976 * (n + 1)))
    ≡ sum_by f (tuples_from table 0 (126976 * n)) + sum_by f (tuples_from table (3968 * (32 * n)) 126976)
sum-block f table n =
    let more : 126976 * (n + 1) ≡ 126976 * n + 126976 = omega arith in
    let next : 0 + 126976 * n ≡ 3968 * (32 * n) = omega arith in
    ap (λ k. sum_by f (tuples_from table 0 k)) more
    ∙ ap (sum_by f) (from-add table 0 (126976 * n) 126976)
    ∙ sum_by-append f (tuples_from table 0 (126976 * n)) (tuples_from table (0 + 126976 * n) 126976)
    ∙ ap (λ k. sum_by f (tuples_from table 0 (126976 * n)) + sum_by f (tuples_from table k 126976)) next

-- no fewer pass of more rows
pub count-within : (test : Option TupleValue → Bool) (table : List Row) (row a b : ℕ) → a ≤ b →
    count_by test (tuples_from table row a) ≤ count_by test (tuples_from table row b)
count-within test table row a b less =
    let more : b ≡ a + (b - a) = omega (arith, less) in
    let both = ap (λ n. count_by test (tuples_from table row n)) more
    ∙ ap (count_by test) (from-add table row a (b - a))
    ∙ sum_by-append (λ t. cond (test t) 1 0) (tuples_from table row a) (tuples_from table (row + a) (b - a)) in
    omega (arith, both)

-- no more pass than of all rows
pub count-total : (test : Option TupleValue → Bool) (table : List Row) (n : ℕ) → test None ≡ false →
    count_by test (tuples_from table 0 n) ≤ count_by (λ r. test r.1) table
count-total test table n none =
    omega (
      arith,
      count-within test table 0 n (n + length table) (omega arith),
      sum-all (λ t. cond (test t) 1 0) table (n + length table) (ap (λ b. cond b 1 0) none) (omega arith),
    )
