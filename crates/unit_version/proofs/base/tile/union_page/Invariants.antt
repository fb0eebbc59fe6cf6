use Rattle.std.proofs.Common.{ℕ, List}
use Rattle.unit_version.specs.Tile.{HasPage, IsPageOf, rows_in}
use Rattle.unit_version.proofs.base.tile.union_page.Given as goal

abbrev pub invariant-loop-bin : goal.invariant-loop-bin
invariant-loop-bin l =
    (rows : List ℕ) (page : ℕ) → HasPage rows page l.tile
    → IsPageOf (rows_in (record { first = l.fn.bins.first; after = l.bin }) rows) page l.page
