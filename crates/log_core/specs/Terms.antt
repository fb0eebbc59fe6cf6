-- What a core is told once, and which nodes are whose.
use Rattle.std.specs.Prelude.{ℕ, ◌+◌, ◌≤◌, List, length, take, slice_index}
use Rattle.std.specs.List.{sum}
use Rattle.cubit_base.specs.Table.{Row}
use Rattle.cubit_base.specs.History.{LimitsFit}
use Rattle.cubit_base.specs.declared.entry.Limits.{Limits}

-- the base table, how many nodes each party has, and the limits
pub record CoreTerms : Type 0 where
  pub base : List Row
  pub shares : List ℕ
  pub limits : Limits

abbrev pub share : CoreTerms → ℕ → ℕ
share terms p = slice_index terms.shares p

-- node 0 is the head; a party's nodes follow those of the parties before it
abbrev pub first_node : CoreTerms → ℕ → ℕ
first_node terms p = 1 + sum (take p terms.shares)

abbrev pub node_count : CoreTerms → ℕ
node_count terms = 1 + sum terms.shares

-- 1 to 64 parties with at most 4,194,304 nodes, limits that fit the base, and a number of tries
pub record AreTerms (terms : CoreTerms) : Type 0 where
  pub party_low : 1 ≤ length terms.shares
  pub party_high : length terms.shares ≤ 64
  pub nodes : sum terms.shares ≤ 4_194_304
  pub limits : LimitsFit terms.limits.row_limit terms.limits.log_limit terms.base
  pub tries : 1 ≤ terms.limits.tries
