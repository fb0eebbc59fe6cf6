use Rattle.std.proofs.Common.{sym, ◌∙◌}
use Rattle.log_core.proofs.Stores.{inner, keeps-tail_moved, keeps-tail_missed}
use Rattle.log_core.proofs.machine.Core.swap_tail.Goals as goal

pub reach_next-requires-clause-sound : goal.reach_next-requires-clause-sound
reach_next-requires-clause-sound c =
    keeps-tail_missed c.args.self.now c.is_sound.ensures.sound c.args.party c.args.from c.args.to c.in-Some.place
    c.requires c.in-Some.ensures.some (λ e. c.if-tail-from.true (c.tail.ensures ∙ e))

pub move_tail-requires-clause-place : goal.move_tail-requires-clause-place
move_tail-requires-clause-place c =
    inner c.args.self.now c.is_sound.ensures.sound c.args.party c.args.from c.args.to c.in-Some.place c.requires
    c.in-Some.ensures.some

pub move_tail-requires-clause-sound : goal.move_tail-requires-clause-sound
move_tail-requires-clause-sound c =
    keeps-tail_moved c.args.self.now c.is_sound.ensures.sound c.args.party c.args.from c.args.to c.in-Some.place
    c.requires c.in-Some.ensures.some (sym c.tail.ensures ∙ c.if-tail-from.false)
