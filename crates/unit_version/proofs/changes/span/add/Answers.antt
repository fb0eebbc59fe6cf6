use Rattle.std.proofs.Common.{◌≡◌, ◌≢◌, ℕ, ◌+◌, ◌-◌, ◌^◌, ◌<◌, ◌≤◌, ◌∙◌, [], ◌∷◌, ◌++◌, length, get_or, set, sym, ap, subst, arith}
use Rattle.std.specs.List.{All}
use Rattle.std.proofs.lemmas.List.{get_or_default}
use Rattle.unit_version.specs.Span.{AreSpans, tag_of}
use Rattle.unit_version.specs.declared.changes.span.Span.{Span}
use Rattle.unit_version.proofs.Spans.{AreSpans-longer, AreSpans-more, number, tag_of-parts}
use Rattle.unit_version.proofs.changes.span.add.Goals as goal
use Rattle.unit_version.proofs.changes.span.add.Goals.{else-len-ne0-via-then-len-ne0+else-index-number, else-len-ne0-via-else-len-ne0}

pub returns-then-index-number : goal.returns-then-index-number
returns-then-index-number c tags are behind =
    let spans = c.args.spans.now.items in
    let place = c.place_in-place.result in
    let i = c.len-len.result - 1 in
    let s = c.index_mut.result.now in
    let low : place < 2 ^ 32 = omega (arith, c.place_in-place.ensures) in
    let last : i + 1 ≡ length spans = omega arith in
    let of_number : s.number ≡ c.number_in-number.result =
    ap number (c.index_mut.ensures.value ∙ get_or_default spans i s c.index.result.now (omega arith)
    ∙ sym c.index.ensures) ∙ c.if-index-number.true in
    let whole : tag_of s.number place ≡ c.args.tag =
    tag_of-parts c.args.tag s.number place (of_number ∙ c.number_in-number.ensures) c.place_in-place.ensures in
    subst (λ (t : ℕ). AreSpans (tags ++ t ∷ [])
    (set spans i (record { number = s.number; first = s.first; last = place }))) whole
    (AreSpans-longer tags spans i s place last c.index_mut.ensures.value low are
    (subst (λ (n : ℕ). All (λ tag. tag ≤ n) tags) (sym whole) behind))

pub returns : goal.returns
returns c tags are behind =
    let spans = c.args.spans.now.items in
    let n = c.number_in-number.result in
    let place = c.place_in-place.result in
    let low : place < 2 ^ 32 = omega (arith, c.place_in-place.ensures) in
    let whole = tag_of-parts c.args.tag n place c.number_in-number.ensures c.place_in-place.ensures in
    let differs : (d : Span) → 0 < length spans → (get_or spans (length spans - 1) d).number ≢ n = λ d some same.
    elim c.else-len-ne0.branch [
      | else-len-ne0-via-then-len-ne0+else-index-number w ↦
          let at : c.len-len.result - 1 ≡ length spans - 1 = omega arith in
          w.if-index-number.false (ap number (w.index.ensures ∙ ap (λ k. get_or spans k w.index.result.now) at
          ∙ get_or_default spans (length spans - 1) w.index.result.now d (omega arith)) ∙ same)
      | else-len-ne0-via-else-len-ne0 w ↦ omega arith
    ] in
    rw c.in_ok-push.ensures.items
    (subst (λ (t : ℕ). AreSpans (tags ++ t ∷ []) (spans ++ record { number = n; first = place; last = place } ∷ []))
    whole (AreSpans-more tags spans n place low are
    (subst (λ (t : ℕ). All (λ tag. tag ≤ t) tags) (sym whole) behind) differs))
