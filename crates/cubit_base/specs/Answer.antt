-- What a query answers over a table.
use Rattle.std.specs.Prelude.{ℕ, Bool, false, List, length, map, filter, sum_by, Some, None}
use Rattle.std.specs.List.{enumerate_from}
use Rattle.cubit_base.specs.declared.predicate.Predicate.{Predicate}
use Rattle.cubit_base.specs.Tuple.{amount_of}
use Rattle.cubit_base.specs.Table.{Row}
use Rattle.cubit_base.specs.Predicate.{matches}

-- the row is live and its tuple matches
abbrev pub is_match : Predicate → Row → Bool
is_match p (key, None) = false
is_match p (key, Some t) = matches p t

-- price times discount, in units of 0.0001; nothing for a row with no tuple
abbrev pub row_amount : Row → ℕ
row_amount (key, None) = 0
row_amount (key, Some t) = amount_of t

-- the rows that match, each with its number, in rising order
abbrev pub matching : List Row → Predicate → List (ℕ × Row)
matching table p = filter (λ r. is_match p r.1) (enumerate_from 0 table)

-- the numbers of the rows that match, how many they are, and the sum of price times discount over them
pub record Answer : Type 0 where
  pub rows : List ℕ
  pub count : ℕ
  pub sum : ℕ

abbrev pub answer : List Row → Predicate → Answer
answer table p = record {
  rows = map (λ r. r.0) (matching table p);
  count = length (matching table p);
  sum = sum_by (λ r. row_amount r.1) (matching table p);
}
