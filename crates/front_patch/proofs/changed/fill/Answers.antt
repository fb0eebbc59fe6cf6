use Rattle.std.proofs.Common.{◌≡◌, ◌-◌, ◌++◌, ◌∷◌, [], ◌∙◌, length, replicate, sym, ap, arith, inl, inr}
use Rattle.std.proofs.lemmas.List.{append_assoc, append-nil, replicate-append-replicate}
use Rattle.front_patch.proofs.changed.fill.Goals as goal

pub loop-end-init : goal.loop-end-init
loop-end-init c =
    let counts = c.args.counts.now.items in
    let none : 0 ≡ c.len-end.result - length counts = omega (arith, c.len-end.ensures) in
    record {
      items = sym (append-nil counts) ∙ ap (λ n. counts ++ replicate n c.args.count) none;
      most = inl (omega (arith, c.len-end.ensures));
    }

pub loop-end-preserved : goal.loop-end-preserved
loop-end-preserved c =
    let counts = c.args.counts.now.items in
    let count = c.args.count in
    let n = c.loop-end._end - length counts in
    record {
      items =
          c.in_ok-push.ensures.items
          ∙ ap (λ all. all ++ count ∷ []) c.loop-end.invariant.items
          ∙ append_assoc counts (replicate n count) (count ∷ [])
          ∙ ap (λ all. counts ++ all) (replicate-append-replicate n 1 count
          ∙ ap (λ m. replicate m count) (omega (arith, c.loop-end.auto._end, c.len-end.ensures)));
      most = inr (omega (arith, c.loop-end-test.true));
    }

pub returns : goal.returns
returns c =
    let counts = c.args.counts.now.items in
    c.loop-end.invariant.items
    ∙ ap (λ m. counts ++ replicate m c.args.count)
    (omega (arith, c.loop-end.auto._end, c.loop-end.invariant.most, c.loop-end-test.false, c.len-end.ensures))
