use Rattle.std.proofs.Common.{◌+◌, ◌∙◌}
use Rattle.shared_log.proofs.Looks.{knows-same}
use Rattle.shared_log.proofs.Walking.{words-read}
use Rattle.shared_log.proofs.seat.PassSeat.read_words.Goals as goal

pub returns : goal.returns
returns g c k lt known =
    let terms = g.T.LogTerms.terms in
    let at = knows-same terms c.args.self.now in
    let place = c.load_payload-place.ensures (k + 1) known in
    let counts = c.load_payload-counts.ensures (k + 1)
    (at c.load_payload-place.new.self c.args.node (k + 1) place.seen known) in
    let two = counts.seen ∙ place.seen in
    let before = c.load_payload-before.ensures (k + 1)
    (at c.load_payload-counts.new.self c.args.node (k + 1) two known) in
    let after = c.load_payload-after.ensures (k + 1)
    (at c.load_payload-before.new.self c.args.node (k + 1) (before.seen ∙ two) known) in
    words-read terms c.args.self.now c.load_payload-place.new.self c.load_payload-counts.new.self
    c.load_payload-before.new.self c.load_payload-after.new.self c.args.node k c.load_payload-place.result
    c.load_payload-counts.result c.load_payload-before.result c.load_payload-after.result place counts before after
