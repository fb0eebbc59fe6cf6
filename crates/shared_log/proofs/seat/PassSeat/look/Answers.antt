use Rattle.std.proofs.Common.{◌≡◌, length, sym, ap, ◌∙◌, subst, arith}
use Rattle.log_core.specs.Growing.{behind}
use Rattle.shared_log.specs.Steps.{Knows}
use Rattle.shared_log.specs.Told.{LoadsPayload}
use Rattle.shared_log.proofs.Looks.{known-inside, last-known, looked}
use Rattle.shared_log.proofs.seat.PassSeat.look.Goals as goal

pub load_link-link-requires : goal.load_link-link-requires
load_link-link-requires g c =
    let tail = c.load_tail-tail.ensures in record {
      known = (tail.place, tail.known);
      inside = known-inside g.T.LogTerms.terms c.load_tail-tail.new.self c.load_tail-tail.result tail.place
          tail.took.knows tail.known;
    }

pub load_payload-counts-requires : goal.load_payload-counts-requires
load_payload-counts-requires g c =
    let terms = g.T.LogTerms.terms in
    let tail = c.load_tail-tail.ensures in
    let view = c.load_link-link.new.self in
    let link = c.load_link-link.ensures tail.place tail.known in
    let known : Knows terms view c.behind-last.result (length view.seen) =
    subst (λ n. Knows terms view n (length view.seen)) (sym c.behind-last.ensures)
    (last-known terms c.args.self.now c.load_tail-tail.new.self view c.load_tail-tail.result c.load_link-link.result
    tail link) in record {
      known = (length view.seen, known);
      inside = known-inside terms view c.behind-last.result (length view.seen) link.took.knows known;
      word = omega arith;
    }

pub returns : goal.returns
returns g c =
    let terms = g.T.LogTerms.terms in
    let tail = c.load_tail-tail.ensures in
    let view = c.load_link-link.new.self in
    let link = c.load_link-link.ensures tail.place tail.known in
    let t = c.load_tail-tail.result in let m = c.load_link-link.result in
    let known = last-known terms c.args.self.now c.load_tail-tail.new.self view t m tail link in
    let is : c.behind-last.result ≡ behind t m = c.behind-last.ensures in
    let counts : LoadsPayload terms view (behind t m) (length view.seen) 1 c.load_payload-counts.result
    c.load_payload-counts.new.self =
    subst (λ n. LoadsPayload terms view n (length view.seen) 1 c.load_payload-counts.result
    c.load_payload-counts.new.self) is
    (c.load_payload-counts.ensures (length view.seen) (subst (λ n. Knows terms view n (length view.seen)) (sym is) known)) in
    looked terms c.args.self.now c.load_tail-tail.new.self view c.load_payload-counts.new.self t m
    c.load_payload-counts.result c.log.inside.base_rows c.front_at.result tail link counts c.log.invariant.base_rows_are
    (λ e. c.front_at.ensures.head (is ∙ e))
    (λ e ne fits told. c.front_at.ensures.entry e (λ z. ne (sym is ∙ z)) fits told
    ∙ ap (λ n. record { len = e.seq; rows = e.rows; node = n }) is)
