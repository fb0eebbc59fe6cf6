use Rattle.log_core.proofs.Bounds.{node-words}
use Rattle.log_core.proofs.machine.Core.load_link.Goals as goal

pub word-link-requires : goal.word-link-requires
word-link-requires c =
    node-words c.args.self.now c.args.node c.in-Some.place c.is_sound.ensures.sound c.in-Some.ensures.some.at
