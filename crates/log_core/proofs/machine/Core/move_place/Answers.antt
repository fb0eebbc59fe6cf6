use Rattle.log_core.proofs.Bounds.{node-words}
use Rattle.log_core.proofs.machine.Core.move_place.Goals as goal

pub word-link-requires : goal.word-link-requires
word-link-requires c =
    node-words c.args.self.now c.args.from c.in_ok-place.place c.is_sound.ensures.sound c.in_ok-place.ensures.some
