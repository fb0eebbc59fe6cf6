use Rattle.log_core.proofs.NextEntry.{next-may, next-fits}
use Rattle.log_core.proofs.machine.Core.next_entry.Goals as goal

pub returns-clause-fits : goal.returns-clause-fits
returns-clause-fits c =
    next-fits c.args.self.now c.is_sound.ensures.sound c.args.party c.len-place.result c.rows_with.result
    c.args.delta.now c.requires.author c.len-place.ensures c.requires.lawful c.rows_with.ensures
    c.rows.ensures.within c.histories.ensures.append c.deltas.ensures.row c.deltas.ensures.told
    c.is_sound.ensures.terms c.requires.party c.requires.room c.is_within.ensures.key
    c.is_within.ensures.order c.is_within.ensures.before c.is_within.ensures.after

pub returns-clause-next : goal.returns-clause-next
returns-clause-next c =
    next-may c.args.self.now c.is_sound.ensures.sound c.args.party c.len-place.result c.rows_with.result
    c.args.delta.now c.requires.author c.len-place.ensures c.requires.lawful c.rows_with.ensures
