-- The rows that a query looks at, by their tuples.
use Rattle.std.specs.Prelude.{ℕ, Bool, false, ◌&&◌, List, count_by, Option, Some, None, if◌then◌else◌}
use Rattle.cubit_base.specs.Table.{Row}
use Rattle.cubit_base.specs.Tuple.{TupleValue, amount_of}
use Rattle.cubit_base.specs.Predicate.{matches}
use Rattle.cubit_base.specs.declared.predicate.Predicate.{Predicate}
use Rattle.column_bins.specs.Plan.{is_candidate, is_in_part}

-- the row is live, and matches
abbrev pub is_match_at : Predicate → Option TupleValue → Bool
is_match_at p None = false
is_match_at p (Some t) = matches p t

-- the row is live, and its bins alone let it match
abbrev pub is_candidate_at : Predicate → Option TupleValue → Bool
is_candidate_at p None = false
is_candidate_at p (Some t) = is_candidate p t

-- the row is live, and its month is met in part, so that its day decides
abbrev pub is_cut_at : Predicate → Option TupleValue → Bool
is_cut_at p None = false
is_cut_at p (Some t) = is_in_part p t

-- a candidate whose day decides
abbrev pub is_part_at : Predicate → Option TupleValue → Bool
is_part_at p tuple = is_candidate_at p tuple && is_cut_at p tuple

-- what the row adds to the sum
abbrev pub amount_at : Predicate → Option TupleValue → ℕ
amount_at p None = 0
amount_at p (Some t) = if matches p t then amount_of t else 0

-- how many candidates a table has, and how many whose day decides
abbrev pub candidate_count : Predicate → List Row → ℕ
candidate_count p table = count_by (λ row. is_candidate_at p row.1) table

abbrev pub part_count : Predicate → List Row → ℕ
part_count p table = count_by (λ row. is_part_at p row.1) table
