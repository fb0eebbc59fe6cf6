use Rattle.std.proofs.Common.{◌≡◌, ◌+◌, ◌++◌, drop, sym, ap, ◌∙◌, arith}
use Rattle.std.proofs.lemmas.List.{at_drop_more, at_drop_all}
use Rattle.query_report.specs.Field.{each_text}
use Rattle.query_report.specs.Journal.{delta_line, delta_lines}
use Rattle.query_report.proofs.Writing.{writes_more, writes_all}
use Rattle.query_report.proofs.journal.put_deltas.Goals as goal

pub loop-place-preserved : goal.loop-place-preserved
unfolding each_text
loop-place-preserved c =
    let deltas = c.args.deltas.now in
    let place = c.loop-place.place in
    let delta = c.index-deltas-place.result in
    let rest = delta_lines (place + 1) (drop (place + 1) deltas) in
    let cut : delta_lines place (drop place deltas) ≡ delta_line place delta ++ rest =
    at_drop_more (delta_lines place) deltas place delta (omega arith)
    ∙ ap (λ d. delta_line place d ++ rest) (sym c.index-deltas-place.is) in
    writes_more c.loop-place.text.items _ (delta_line place delta) rest _ _ c.in_ok-put_delta.ensures cut
    c.loop-place.invariant

pub returns : goal.returns
unfolding each_text
returns c =
    let place = c.loop-place.place in
    let done = at_drop_all (delta_lines place) c.args.deltas.now place (omega arith) in
    writes_all c.loop-place.text.items _ _ done c.loop-place.invariant
