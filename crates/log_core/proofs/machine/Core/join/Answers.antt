use Rattle.std.proofs.Common.{arith}
use Rattle.log_core.proofs.Looks.{sound-seen}
use Rattle.log_core.proofs.machine.Core.join.Goals as goal

pub set_party-requires-clause-sound : goal.set_party-requires-clause-sound
set_party-requires-clause-sound c =
    let s = c.is_sound.ensures.sound in
    let noted = s.noted in
    sound-seen c.args.self.now c.args.party c.args.note c.sees-of.result c.party.result s c.requires c.party.ensures
    c.sees-of.ensures (omega arith)
