use Rattle.std.proofs.Common.{ℕ, ◌≡◌, ◌+◌, ◌*◌, ◌<◌, List, map, get_or}
use Rattle.cubit_base.specs.Table.{Row}
use Rattle.column_bins.specs.declared.column.Column.{Column}
use Rattle.column_bins.specs.declared.column.Column.TheVariants.{Ship, Disc, Qty, Flag, Status}
use Rattle.unit_version.specs.RowBins.{row_bin}
use Rattle.unit_version.proofs.base.rows.read_page.Given as goal

-- the first so many bins of a page are read
abbrev AreRead : List Row → Column → ℕ → ℕ → List ℕ → Type 0
AreRead table column page count bins =
    (k : ℕ) → k < count → get_or bins k 255 ≡ get_or (map (row_bin column) table) (3968 * page + k) 255

abbrev pub invariant-loop-at : goal.invariant-loop-at
invariant-loop-at l = record {
  ship_are : AreRead l.table Ship l.page l.at l.rows.ship;
  disc_are : AreRead l.table Disc l.page l.at l.rows.disc;
  qty_are : AreRead l.table Qty l.page l.at l.rows.qty;
  flag_are : AreRead l.table Flag l.page l.at l.rows.flag;
  status_are : AreRead l.table Status l.page l.at l.rows.status;
}
