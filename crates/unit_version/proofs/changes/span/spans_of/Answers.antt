use Rattle.std.proofs.Common.{ℕ, ◌<◌, ◌≤◌, List, length, get_or, take, subst, ◌∙◌, arith}
use Rattle.std.specs.List.{All}
use Rattle.std.proofs.lemmas.List.{take_more, take_all, get_or-take, get_or_default, length-take-le}
use Rattle.std.proofs.lemmas.List.Sorted.{IsNonDecreasingBy-from_sort}
use Rattle.unit_version.specs.Span.{AreSpans}
use Rattle.unit_version.proofs.Spans.{AreSpans-permutation}
use Rattle.unit_version.proofs.changes.span.spans_of.Goals as goal

pub loop-tag-preserved : goal.loop-tag-preserved
loop-tag-preserved c =
    let tags = c.deref-tag-items.result.now in
    let i = c.loop-tag.tag-index in
    let tag = get_or tags i 0 in
    let up = IsNonDecreasingBy-from_sort (λ (x : ℕ). x) c.sort_unstable.new.self.items c.sort_unstable.ensures.sorted in
    let behind : All (λ t. t ≤ tag) (take i tags) = λ k d low.
    (let short = length-take-le i tags (omega arith) in
    let sorted = rw (← c.deref-tag-items.ensures.value) at (up k i d (omega arith) (omega arith)) in
    rw (get_or-take i tags k d (omega arith), get_or_default tags i 0 d (omega arith)) sorted) in
    let within : i < length tags = omega arith in
    rw (take_more tags i 0 within) (c.in_ok-add.ensures (take i tags) c.loop-tag.invariant behind)

pub returns : goal.returns
returns c =
    let tags = c.deref-tag-items.result.now in
    AreSpans-permutation c.args.tags.items c.sort_unstable.new.self.items c.loop-tag.spans.items
    c.sort_unstable.ensures.permutation
    (subst (λ (ts : List ℕ). AreSpans ts c.loop-tag.spans.items)
    (take_all c.loop-tag.tag-index tags (omega arith) ∙ c.deref-tag-items.ensures.value) c.loop-tag.invariant)
