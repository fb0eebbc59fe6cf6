use Rattle.std.proofs.Common.{◌≡◌, map, take}
use Rattle.unit_version.specs.Content.{is_in_bins}
use Rattle.selection.proofs.tests.moves.rows_in.Given as goal

abbrev pub invariant-loop-n : goal.invariant-loop-n
invariant-loop-n l = l.rows.items ≡ map (is_in_bins l.column l.stretch) (take l.n l.table)
