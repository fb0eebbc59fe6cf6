use Rattle.log_core.proofs.Looks.{sound-loaded}
use Rattle.log_core.proofs.machine.Core.load_tail.Goals as goal

pub set_party-requires-clause-sound : goal.set_party-requires-clause-sound
set_party-requires-clause-sound c =
    sound-loaded c.args.self.now c.args.party c.tail_end.result c.len.result c.tail-tail.result c.loads_tail-of.result
    c.party-of.result c.is_sound.ensures.sound c.requires c.party-of.ensures c.loads_tail-of.ensures
    c.tail_end.ensures c.len.ensures c.tail-tail.ensures
