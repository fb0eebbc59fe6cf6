use Rattle.std.proofs.Common.{◌≡◌, take}
use Rattle.front_patch.specs.Bits.{bits_by}
use Rattle.front_patch.proofs.tests.plain.passing.Given as goal

abbrev pub invariant-loop-n : goal.invariant-loop-n
invariant-loop-n l = l.rows.items ≡ bits_by l.test (take l.n l.table)
