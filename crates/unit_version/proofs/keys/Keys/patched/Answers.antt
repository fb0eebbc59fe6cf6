use Rattle.std.proofs.Common.{◌∙◌}
use Rattle.unit_version.proofs.KeyLives.{DeltaLaws}
use Rattle.unit_version.proofs.KeysAfter.{keys-after}
use Rattle.unit_version.proofs.keys.Keys.patched.Goals as goal

pub returns : goal.returns
returns c table deltas lawful are lines is =
    let laws : DeltaLaws = record { own = c.deltas.ensures.own; others = c.deltas.ensures.others } in
    keys-after c.args.rest c.self.inside.rest c.self.invariant.low table c.self.inside.entries.items
    c.self.invariant.rising (c.self.view_is ∙ is) laws 16_777_216 deltas lawful c.args.changes.now are lines
    c.in_ok-entries.entries.items (rw c.deref.ensures.value at c.in_ok-entries.ensures) c.requires.low
