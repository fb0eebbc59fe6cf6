-- Count and sum of the rows that match, one row after another.
use Rattle.std.proofs.Common.{◌≡◌, ℕ, ◌+◌, ◌∙◌, Bool, true, false, cond, List, [], ◌∷◌, length, refl, sym, ap, arith, filter, sum_by, count_by}
use Rattle.std.specs.List.{enumerate_from}
use Rattle.std.proofs.lemmas.List.Sums.{sum_by-cons}
use Rattle.cubit_base.specs.declared.predicate.Predicate.{Predicate}
use Rattle.cubit_base.specs.Table.{Row}
use Rattle.cubit_base.specs.Answer.{is_match, row_amount, matching}

-- what a row adds to the sum
abbrev pub share : Predicate → Row → ℕ
share p row = cond (is_match p row) (row_amount row) 0

-- one row more, which is kept or not
length-kept : (b : Bool) (r : ℕ × Row) (rs : List (ℕ × Row)) → length (cond b (r ∷ rs) rs) ≡ cond b 1 0 + length rs
length-kept true r rs = omega arith
length-kept false r rs = omega arith

sum_by-kept : (b : Bool) (r : ℕ × Row) (rs : List (ℕ × Row))
    → sum_by (λ s. row_amount s.1) (cond b (r ∷ rs) rs) ≡ cond b (row_amount r.1) 0 + sum_by (λ s. row_amount s.1) rs
sum_by-kept true r rs = sum_by-cons (λ s. row_amount s.1) r rs
sum_by-kept false r rs = omega arith

-- the numbers of the rows do not bear on their count, nor on their sum
length-numbered : (p : Predicate) (n : ℕ) (table : List Row)
    → length (filter (λ r. is_match p r.1) (enumerate_from n table)) ≡ count_by (is_match p) table
length-numbered p n [] = refl
length-numbered p n (row ∷ table) =
    length-kept (is_match p row) (n, row) (filter (λ r. is_match p r.1) (enumerate_from (n + 1) table))
    ∙ ap (λ k. cond (is_match p row) 1 0 + k) (length-numbered p (n + 1) table)
    ∙ sym (sum_by-cons (λ r. cond (is_match p r) 1 0) row table)

sum_by-numbered : (p : Predicate) (n : ℕ) (table : List Row)
    → sum_by (λ r. row_amount r.1) (filter (λ r. is_match p r.1) (enumerate_from n table)) ≡ sum_by (share p) table
sum_by-numbered p n [] = refl
sum_by-numbered p n (row ∷ table) =
    sum_by-kept (is_match p row) (n, row) (filter (λ r. is_match p r.1) (enumerate_from (n + 1) table))
    ∙ ap (λ k. share p row + k) (sum_by-numbered p (n + 1) table)
    ∙ sym (sum_by-cons (share p) row table)

-- so many rows match
pub length-matching : (table : List Row) (p : Predicate) → length (matching table p) ≡ count_by (is_match p) table
length-matching table p = length-numbered p 0 table

-- so much do the rows that match add to the sum
pub sum_by-matching : (table : List Row) (p : Predicate)
    → sum_by (λ r. row_amount r.1) (matching table p) ≡ sum_by (share p) table
sum_by-matching table p = sum_by-numbered p 0 table
