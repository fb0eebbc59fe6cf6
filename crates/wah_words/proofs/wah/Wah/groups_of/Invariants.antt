use Rattle.std.proofs.Common.{◌≡◌, ◌*◌, take, length}
use Rattle.wah_words.specs.Group.{unpacked}
use Rattle.wah_words.proofs.wah.Wah.groups_of.Given as goal

abbrev pub invariant-loop-i : goal.invariant-loop-i
invariant-loop-i l = (unpacked l.out ≡ take (31 * l.i) l.rows) × (length l.out ≡ l.i)
