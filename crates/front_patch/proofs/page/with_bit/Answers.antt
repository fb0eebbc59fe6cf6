use Rattle.front_patch.proofs.Marks.{bit-set}
use Rattle.front_patch.proofs.page.with_bit.Goals as goal

pub returns : goal.returns
returns c = bit-set c.args.word c.args.place c.requires
