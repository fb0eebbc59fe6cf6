use Rattle.unit_version.specs.Tile.{ArePushed}
use Rattle.unit_version.specs.Union.{union_at}
use Rattle.unit_version.proofs.base.unions.push_unions.Given as goal

abbrev pub invariant-loop-n : goal.invariant-loop-n
invariant-loop-n l = ArePushed (union_at l.column) l.tile l.n l.fn.unions l.unions
