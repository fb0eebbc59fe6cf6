use Rattle.std.proofs.Common.{arith}
use Rattle.front_patch.proofs.taken.Taken.shows_base.Goals as goal

pub is_of_base-requires-clause-planned : goal.is_of_base-requires-clause-planned
is_of_base-requires-clause-planned g c = c.requires.planned c.args.bin (omega arith) (omega (arith, c.requires.some))
