-- What is answered of a table, by its tuples.
use Rattle.std.proofs.Common.{◌≡◌, ℕ, zero, suc, ◌+◌, ◌-◌, ◌≤◌, ◌∙◌, Bool, true, false, cond, List, [], ◌∷◌, ◌++◌, length, map, replicate, Option, Some, None, refl, sym, ap, arith, filter, sum_by, count_by}
use Rattle.std.specs.List.{enumerate_from}
use Rattle.std.proofs.lemmas.List.{map-append}
use Rattle.std.proofs.lemmas.List.Sums.{sum_by-cons, length-filter}
use Rattle.cubit_base.specs.Answer.{answer, is_match, row_amount}
use Rattle.cubit_base.specs.Table.{Row}
use Rattle.cubit_base.specs.Tuple.{TupleValue}
use Rattle.cubit_base.specs.declared.predicate.Predicate.{Predicate}
use Rattle.unit_version.specs.Content.{tuples_from}
use Rattle.wah_words.specs.Rows.{true_places}
use Rattle.selection.specs.Candidates.{is_match_at, amount_at}
use Rattle.selection.proofs.Places.{places-append}
use Rattle.selection.proofs.Tuples.{from-all, sum-all}

same-match : (p : Predicate) (r : Row) → is_match p r ≡ is_match_at p r.1
same-match p (key, None) = refl
same-match p (key, Some t) = refl

same-amount : (p : Predicate) (r : Row) → cond (is_match p r) (row_amount r) 0 ≡ amount_at p r.1
same-amount p (key, None) = refl
same-amount p (key, Some t) = refl

sum-same : {X : Type 0} (f g : X → ℕ) (xs : List X) → ((x : X) → f x ≡ g x) → sum_by f xs ≡ sum_by g xs
sum-same f g [] same = refl
sum-same f g (x ∷ xs) same =
    sum_by-cons f x xs ∙ ap (λ n. n + sum_by f xs) (same x) ∙ ap (λ n. g x + n) (sum-same f g xs same)
    ∙ sym (sum_by-cons g x xs)

-- their numbers do not bear on the sums
sum-numbered : {X : Type 0} (f : X → ℕ) (n : ℕ) (xs : List X) →
    sum_by (λ x. f x.1) (enumerate_from n xs) ≡ sum_by f xs
sum-numbered f n [] = refl
sum-numbered f n (x ∷ xs) =
    sum_by-cons (λ x. f x.1) (n, x) (enumerate_from (n + 1) xs)
    ∙ ap (λ k. f x + k) (sum-numbered f (n + 1) xs) ∙ sym (sum_by-cons f x xs)

sum-passing : {X : Type 0} (f : X → ℕ) (test : X → Bool) (xs : List X) →
    sum_by f (filter test xs) ≡ sum_by (λ x. cond (test x) (f x) 0) xs
sum-passing f test [] = refl
sum-passing f test (x ∷ xs) =
    kept f (test x) x (filter test xs) ∙ ap (λ n. cond (test x) (f x) 0 + n) (sum-passing f test xs)
    ∙ sym (sum_by-cons (λ x. cond (test x) (f x) 0) x xs) where
      kept : {X : Type 0} (f : X → ℕ) (b : Bool) (x : X) (xs : List X) →
          sum_by f (cond b (x ∷ xs) xs) ≡ cond b (f x) 0 + sum_by f xs
      kept f true x xs = sum_by-cons f x xs
      kept f false x xs = omega arith

-- how many rows match
pub answer-count : (p : Predicate) (table : List Row) (n : ℕ) → length table ≤ n →
    count_by (is_match_at p) (tuples_from table 0 n) ≡ (answer table p).count
answer-count p table n past =
    sum-all (λ t. cond (is_match_at p t) 1 0) table n refl past
    ∙ sum-same (λ r. cond (is_match_at p r.1) 1 0) (λ r. cond (is_match p r) 1 0) table
    (λ r. ap (λ b. cond b 1 0) (sym (same-match p r)))
    ∙ sym (sum-numbered (λ r. cond (is_match p r) 1 0) 0 table)
    ∙ sym (length-filter (λ r. is_match p r.1) (enumerate_from 0 table))

-- what they add up to
pub answer-sum : (p : Predicate) (table : List Row) (n : ℕ) → length table ≤ n →
    sum_by (amount_at p) (tuples_from table 0 n) ≡ (answer table p).sum
answer-sum p table n past =
    sum-all (amount_at p) table n refl past
    ∙ sum-same (λ r. amount_at p r.1) (λ r. cond (is_match p r) (row_amount r) 0) table (λ r. sym (same-amount p r))
    ∙ sym (sum-numbered (λ r. cond (is_match p r) (row_amount r) 0) 0 table)
    ∙ sym (sum-passing (λ r. row_amount r.1) (λ r. is_match p r.1) (enumerate_from 0 table))

-- ---- their numbers

map-map : {X Y Z : Type 0} (f : Y → Z) (g : X → Y) (xs : List X) → map f (map g xs) ≡ map (λ x. f (g x)) xs
map-map f g [] = refl
map-map f g (x ∷ xs) = ap (λ ys. f (g x) ∷ ys) (map-map f g xs)

none-past : (first past : ℕ) (test : Option TupleValue → Bool) → test None ≡ false →
    true_places first (map test (replicate past None)) ≡ []
unfolding true_places
none-past first zero test none = refl
none-past first (suc past) test none =
    ap (λ b. true_places first (b ∷ map test (replicate past None))) none ∙ none-past (first + 1) past test none

places-all : (test : Option TupleValue → Bool) (table : List Row) (n : ℕ) → test None ≡ false → length table ≤ n →
    true_places 0 (map test (tuples_from table 0 n)) ≡ true_places 0 (map (λ r. test r.1) table)
places-all test table n none past =
    let more = n - length table in
    let long : n ≡ length table + more = omega (arith, past) in
    let rows = map test (map (λ r. r.1) table) in
    ap (λ k. true_places 0 (map test (tuples_from table 0 k))) long
    ∙ ap (λ ts. true_places 0 (map test ts)) (from-all table more)
    ∙ ap (true_places 0) (map-append test (map (λ r. r.1) table) (replicate more None))
    ∙ places-append 0 rows (map test (replicate more None))
    ∙ ap (λ ps. true_places 0 rows ++ ps) (none-past (0 + length rows) more test none)
    ∙ append-nil (true_places 0 rows)
    ∙ ap (true_places 0) (map-map test (λ r. r.1) table) where
      append-nil : {X : Type 0} (xs : List X) → xs ++ [] ≡ xs
      append-nil [] = refl
      append-nil (x ∷ xs) = ap (λ ys. x ∷ ys) (append-nil xs)

numbers : (p : Predicate) (n : ℕ) (table : List Row) →
    true_places n (map (λ r. is_match_at p r.1) table)
    ≡ map (λ r. r.0) (filter (λ r. is_match p r.1) (enumerate_from n table))
unfolding true_places
numbers p n [] = refl
numbers p n (r ∷ table) =
    ap (λ b. cond b (n ∷ true_places (n + 1) (map (λ r. is_match_at p r.1) table))
    (true_places (n + 1) (map (λ r. is_match_at p r.1) table))) (sym (same-match p r))
    ∙ kept (is_match p r) (true_places (n + 1) (map (λ r. is_match_at p r.1) table))
    (filter (λ r. is_match p r.1) (enumerate_from (n + 1) table)) (numbers p (n + 1) table) where
      kept : (b : Bool) (ps : List ℕ) (rs : List (ℕ × Row)) → ps ≡ map (λ r. r.0) rs →
          cond b (n ∷ ps) ps ≡ map (λ r. r.0) (cond b ((n, r) ∷ rs) rs)
      kept true ps rs same = ap (λ ps. n ∷ ps) same
      kept false ps rs same = same

pub answer-rows : (p : Predicate) (table : List Row) (n : ℕ) → length table ≤ n →
    true_places 0 (map (is_match_at p) (tuples_from table 0 n)) ≡ (answer table p).rows
answer-rows p table n past = places-all (is_match_at p) table n refl past ∙ numbers p 0 table
