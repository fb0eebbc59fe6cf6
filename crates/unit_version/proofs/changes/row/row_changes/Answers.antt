use Rattle.std.proofs.Common.{List, length, get_or, ap, sym, subst, arith}
use Rattle.std.proofs.lemmas.List.{get_or_default, length_push}
use Rattle.unit_version.specs.Changes.{IsRowChange, row_number}
use Rattle.unit_version.specs.Span.{AreSpans}
use Rattle.unit_version.specs.declared.changes.span.Span.{Span}
use Rattle.unit_version.proofs.Digests.{span-within}
use Rattle.unit_version.proofs.RowDigests.{AreRowChanges-spans, row_changes-more}
use Rattle.unit_version.proofs.changes.row.row_changes.Goals as goal

pub row_change-requires : goal.row_change-requires
row_change-requires c =
    let spans = c.deref-span-items.result.now in
    let are : AreSpans c.in_ok-row_tags.field-0.items spans =
    subst (λ (s : List Span). AreSpans c.in_ok-row_tags.field-0.items s) (sym c.deref-span-items.ensures.value)
    c.in_ok-spans.ensures in
    let d : Span = record { number = 0; first = 0; last = 0 } in
    let within = span-within row_number c.args.deltas.now c.in_ok-row_tags.field-0.items
    (get_or spans c.loop-span.span-index d) c.in_ok-row_tags.ensures
    (are.each c.loop-span.span-index d c.loop-span-test.true) in
    record { first = within.0; last = within.1 }

pub loop-span-preserved : goal.loop-span-preserved
loop-span-preserved c =
    let spans = c.deref-span-items.result.now in
    let i = c.loop-span.span-index in
    let deltas = c.args.deltas.now in
    let new = c.row_change.result in
    let d : Span = record { number = 0; first = 0; last = 0 } in
    record {
      long = omega (
        arith,
        ap length c.in_ok-push.ensures.items,
        length_push c.loop-span.changes.items new,
        c.loop-span.invariant.long,
      );
      each = rw c.in_ok-push.ensures.items
          (row_changes-more deltas spans c.loop-span.changes.items i new c.loop-span.invariant.long
          (λ s. subst (λ (x : Span). IsRowChange deltas x new) (get_or_default spans i d s c.loop-span-test.true)
          c.row_change.ensures) c.loop-span.invariant.each);
    }

pub returns : goal.returns
returns c =
    let spans = c.deref-span-items.result.now in
    let tags = c.in_ok-row_tags.field-0.items in
    let are : AreSpans tags spans =
    subst (λ (s : List Span). AreSpans tags s) (sym c.deref-span-items.ensures.value) c.in_ok-spans.ensures in
    AreRowChanges-spans c.args.deltas.now tags spans c.loop-span.changes.items c.requires c.in_ok-row_tags.ensures are
    (omega (arith, c.loop-span.invariant.long)) (λ k s change low. c.loop-span.invariant.each k s change (omega arith))
