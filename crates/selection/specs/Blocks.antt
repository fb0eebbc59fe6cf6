-- Groups of a table's rows.
use Rattle.std.specs.Prelude.{◌≡◌, ℕ, ◌+◌, ◌*◌, ◌^◌, ◌<◌, ◌≤◌, Bool, true, All, List, length, Option}
use Rattle.cubit_base.specs.Table.{Row}
use Rattle.cubit_base.specs.LiveRow.{tuple_at}
use Rattle.cubit_base.specs.Tuple.{TupleValue}
use Rattle.cubit_base.specs.declared.predicate.Predicate.{Predicate}
use Rattle.column_bins.specs.Plan.{has_part}
use Rattle.front_patch.specs.Bits.{row_in}
use Rattle.selection.specs.Candidates.{is_candidate_at, is_cut_at}
use Rattle.selection.specs.declared.block.Block.{Block}

-- the groups from a page on tell of each of their rows whether its tuple passes
pub record Tells (test : Option TupleValue → Bool) (table : List Row) (page : ℕ) (groups : List ℕ) : Type 0 where
  pub small : All (λ group. group < 2 ^ 31) groups
  pub each : (row : ℕ) → row < 31 * length groups → row_in groups row ≡ test (tuple_at table (3968 * page + row))

-- a block tells the candidates, and, where some month is met in part, the rows of such months
pub record IsBlock (p : Predicate) (table : List Row) (block : Block) : Type 0 where
  pub near : block.first ≤ 16_777_216
  pub candidates : Tells (is_candidate_at p) table block.first block.candidates
  pub cut : has_part p.ship ≡ true → Tells (is_cut_at p) table block.first block.cut
