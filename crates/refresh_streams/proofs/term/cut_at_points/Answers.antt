use Rattle.std.proofs.Common.{◌≡◌, ◌∙◌, ◌+◌, true, false, drop, take, Some, sym, ap, append-nil}
use Rattle.std.proofs.lemmas.List.{take_rest}
use Rattle.refresh_streams.specs.Term.{begins_with_points}
use Rattle.refresh_streams.proofs.Terms.{onto, cut-here, cut-later}
use Rattle.refresh_streams.proofs.term.cut_at_points.Goals as goal

pub returns-then-begins_with_points : goal.returns-then-begins_with_points
returns-then-begins_with_points c =
    let text = c.args.text.now in
    let at = c.loop-at.at in
    let points : true ≡ begins_with_points (drop at text) = rw take_rest at c.if-begins_with_points.ensures.value in
    rw take_rest (sym (c.loop-at.invariant ∙ ap (onto (take at text)) (cut-here text at (sym points))
    ∙ ap (λ front. (front, Some (drop (at + 2) text))) (append-nil (take at text))))

pub loop-at-preserved : goal.loop-at-preserved
loop-at-preserved c =
    let text = c.args.text.now in
    let none : false ≡ begins_with_points (drop c.loop-at.at text) =
    rw take_rest at c.if-begins_with_points.ensures.value in
    c.loop-at.invariant ∙ cut-later text c.loop-at.at c.loop-at-test.true (sym none)
