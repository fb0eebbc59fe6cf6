use Rattle.std.proofs.Common.{arith}
use Rattle.log_core.proofs.Bounds.{node-words}
use Rattle.log_core.proofs.machine.Core.load_payload.Goals as goal

pub word-requires : goal.word-requires
word-requires c =
    let within = node-words c.args.self.now c.args.node c.in-Some._place c.is_sound.ensures.sound
    c.in-Some.ensures.some.at in
    omega arith
