use Rattle.std.proofs.Common.{List, length, get_or, ap, sym, subst, arith}
use Rattle.std.proofs.lemmas.List.{get_or_default, length_push}
use Rattle.unit_version.specs.Changes.{IsKeyChange, key_number}
use Rattle.unit_version.specs.Span.{AreSpans}
use Rattle.unit_version.specs.declared.changes.span.Span.{Span}
use Rattle.unit_version.proofs.Digests.{span-within}
use Rattle.unit_version.proofs.KeyDigests.{AreKeyChanges-spans, key_changes-more}
use Rattle.unit_version.proofs.changes.keyed.page_changes.Goals as goal

pub key_change-requires : goal.key_change-requires
key_change-requires c =
    let spans = c.deref-span-items.result.now in
    let are : AreSpans c.args.tags.items spans =
    subst (λ (s : List Span). AreSpans c.args.tags.items s) (sym c.deref-span-items.ensures.value)
    c.in_ok-spans.ensures in
    let d : Span = record { number = 0; first = 0; last = 0 } in
    let within = span-within (key_number c.args.rest) c.args.deltas.now c.args.tags.items
    (get_or spans c.loop-span.span-index d) c.requires.tags
    (are.each c.loop-span.span-index d c.loop-span-test.true) in
    within.1

pub loop-span-preserved : goal.loop-span-preserved
loop-span-preserved c =
    let spans = c.deref-span-items.result.now in
    let i = c.loop-span.span-index in
    let deltas = c.args.deltas.now in
    let new = c.key_change.result in
    let d : Span = record { number = 0; first = 0; last = 0 } in
    record {
      long = omega (
        arith,
        ap length c.in_ok-push.ensures.items,
        length_push c.loop-span.changes.items new,
        c.loop-span.invariant.long,
      );
      each = rw c.in_ok-push.ensures.items
          (key_changes-more deltas spans c.loop-span.changes.items i new c.loop-span.invariant.long
          (λ s. subst (λ (x : Span). IsKeyChange deltas x new) (get_or_default spans i d s c.loop-span-test.true)
          c.key_change.ensures) c.loop-span.invariant.each);
    }

pub returns : goal.returns
returns c =
    let spans = c.deref-span-items.result.now in
    let tags = c.args.tags.items in
    let are : AreSpans tags spans =
    subst (λ (s : List Span). AreSpans tags s) (sym c.deref-span-items.ensures.value) c.in_ok-spans.ensures in
    AreKeyChanges-spans c.args.rest c.args.deltas.now tags spans c.loop-span.changes.items c.requires.few
    c.requires.lines
    c.requires.tags are (omega (arith, c.loop-span.invariant.long))
    (λ k s change low. c.loop-span.invariant.each k s change (omega arith))
