use Rattle.std.proofs.Common.{refl}
use Rattle.shared_log.proofs.Appending.{kn-stored, may-put, append-late, append-done}
use Rattle.shared_log.proofs.seat.PassSeat.append.Goals as goal

pub reach-requires : goal.reach-requires
reach-requires g c =
    kn-stored g.T.LogTerms.terms c.args.self.now c.store_entry.new.self c.store_entry.new.self c.args.at.now c.args.node
    c.to_words.result c.args.entry.now c.store_entry.ensures c.to_words.ensures c.requires.next c.requires.entry
    c.requires.at

pub returns-then-not-reach : goal.returns-then-not-reach
returns-then-not-reach g c =
    append-late g.T.LogTerms.terms c.args.self.now c.store_entry.new.self c.reach.new.self c.args.at.now c.args.node
    c.to_words.result c.args.entry.now c.store_entry.ensures c.to_words.ensures c.requires.next c.requires.entry
    c.requires.at c.reach.result c.reach.ensures c.if-not-reach.true

pub put-requires-clause-may : goal.put-requires-clause-may
put-requires-clause-may g c = (
  c.args.entry.now,
  may-put g.T.LogTerms.terms c.args.self.now c.store_entry.new.self c.reach.new.self c.args.at.now c.args.node
      c.to_words.result c.args.entry.now c.store_entry.ensures c.to_words.ensures c.requires.next c.requires.entry
      c.requires.at c.reach.result c.reach.ensures c.if-not-reach.false c.requires.room,
  refl,
)

pub returns : goal.returns
returns g c =
    append-done g.T.LogTerms.terms c.args.self.now c.store_entry.new.self c.reach.new.self c.args.at.now c.args.node
    c.to_words.result c.args.entry.now c.store_entry.ensures c.to_words.ensures c.requires.next c.requires.entry
    c.requires.at c.reach.result c.reach.ensures c.put.new.self c.put.result c.put.ensures
