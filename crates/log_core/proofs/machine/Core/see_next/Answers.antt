use Rattle.std.proofs.Common.{◌+◌, arith}
use Rattle.log_core.proofs.Ends.{end_at-within}
use Rattle.log_core.proofs.Looks.{sound-seen}
use Rattle.log_core.proofs.machine.Core.see_next.Goals as goal

pub set_party-requires-clause-sound : goal.set_party-requires-clause-sound
set_party-requires-clause-sound c =
    let core = c.args.self.now in
    let within = end_at-within core.chain.history (c.args.place + 1) in
    sound-seen core c.args.party c.end_behind.result c.sees-of.result c.party.result c.is_sound.ensures.sound
    c.requires c.party.ensures c.sees-of.ensures (omega arith)
