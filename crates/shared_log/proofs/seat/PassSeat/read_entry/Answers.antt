use Rattle.std.proofs.Common.{◌+◌, sym, subst, arith}
use Rattle.log_core.specs.Chain.{entry_at}
use Rattle.shared_log.specs.Steps.{Knows}
use Rattle.shared_log.specs.Told.{LoadsLink}
use Rattle.shared_log.proofs.Looks.{known-inside}
use Rattle.shared_log.proofs.Walking.{place-known, linked-on, entry-read}
use Rattle.shared_log.proofs.seat.PassSeat.read_entry.Goals as goal

pub load_link-next-requires : goal.load_link-next-requires
load_link-next-requires g c =
    let terms = g.T.LogTerms.terms in
    let view = c.args.self.now in
    let cursor = c.args.cursor.now in
    let known : Knows terms view c.from.result cursor.len =
    subst (λ n. Knows terms view n cursor.len) (sym c.from.ensures) (place-known terms view cursor c.requires.place) in
    record {
      known = (cursor.len, known);
      inside = known-inside terms view c.from.result cursor.len c.requires.knows known;
    }

pub read_words-words-requires : goal.read_words-words-requires
read_words-words-requires g c =
    let terms = g.T.LogTerms.terms in
    let view = c.args.self.now in
    let cursor = c.args.cursor.now in
    let before = c.requires.before in
    let known : Knows terms view c.from.result cursor.len =
    subst (λ n. Knows terms view n cursor.len) (sym c.from.ensures) (place-known terms view cursor c.requires.place) in
    let link = c.load_link-next.ensures cursor.len known in
    let on = linked-on terms view c.load_link-next.new.self c.from.result cursor.len c.load_link-next.result before
    link in
    let within = on.0.within in record {
      knows = link.took.knows;
      known = (cursor.len, omega arith, on.0);
    }

pub overflow_cast-cursor : goal.overflow_cast-cursor
overflow_cast-cursor g c =
    let terms = g.T.LogTerms.terms in
    let view = c.args.self.now in
    let cursor = c.args.cursor.now in
    let known : Knows terms view c.from.result cursor.len =
    subst (λ n. Knows terms view n cursor.len) (sym c.from.ensures) (place-known terms view cursor c.requires.place) in
    let link = c.load_link-next.ensures cursor.len known in
    let on = linked-on terms view c.load_link-next.new.self c.from.result cursor.len c.load_link-next.result
    c.requires.before link in
    let inside = known-inside terms c.load_link-next.new.self c.load_link-next.result (cursor.len + 1) link.took.knows
    on.0 in
    let nodes = c.self.invariant.3.nodes in
    omega arith

pub entry_of-requires : goal.entry_of-requires
entry_of-requires g c =
    let terms = g.T.LogTerms.terms in
    let view = c.args.self.now in
    let cursor = c.args.cursor.now in
    let known : Knows terms view c.from.result cursor.len =
    subst (λ n. Knows terms view n cursor.len) (sym c.from.ensures) (place-known terms view cursor c.requires.place) in
    let link = c.load_link-next.ensures cursor.len known in
    let on = linked-on terms view c.load_link-next.new.self c.from.result cursor.len c.load_link-next.result
    c.requires.before link in
    let within = on.0.within in
    let read = c.read_words-words.ensures cursor.len (omega arith) on.0 in (
      entry_at terms c.load_link-next.new.self.seen cursor.len,
      link.took.knows.entries cursor.len (omega arith),
      read.words_are,
    )

pub returns : goal.returns
returns g c =
    let terms = g.T.LogTerms.terms in
    let view = c.args.self.now in
    let later = c.load_link-next.new.self in
    let cursor = c.args.cursor.now in
    let next = c.load_link-next.result in
    let known : Knows terms view c.from.result cursor.len =
    subst (λ n. Knows terms view n cursor.len) (sym c.from.ensures) (place-known terms view cursor c.requires.place) in
    let link' = c.load_link-next.ensures cursor.len known in
    let link : LoadsLink terms view cursor.node cursor.len next later =
    subst (λ n. LoadsLink terms view n cursor.len next later) c.from.ensures link' in
    let on = linked-on terms view later cursor.node cursor.len next c.requires.before link in
    let within = on.0.within in
    let read = c.read_words-words.ensures cursor.len (omega arith) on.0 in
    let is = c.entry_of.ensures (entry_at terms later.seen cursor.len) (link.took.knows.entries cursor.len (omega arith))
    read.words_are in
    entry-read terms view later c.read_words-words.new.self cursor next c.read_words-words.result c.entry_of.result
    c.requires.before link read is
