use Rattle.std.proofs.Common.{◌≡◌, ◌+◌, length, ap, arith}
use Rattle.std.proofs.lemmas.List.{length_push}
use Rattle.unit_version.proofs.KeyTags.{first-tags, other-tags, keyed-more}
use Rattle.unit_version.proofs.changes.keyed.key_changes.Goals as goal

pub loop-rest-init : goal.loop-rest-init
loop-rest-init c = record {
  left = omega (arith, c.in_ok-tags.ensures.long);
  tags_are = λ k d low. (let at : 0 + k ≡ k = omega arith in
      rw at (c.in_ok-tags.ensures.each k d (omega (arith, c.in_ok-tags.ensures.long))));
  long = ap length c.in_ok-lists.ensures.items;
  made = λ k d low. absurd (omega arith);
}

pub page_changes-requires-clause-tags : goal.page_changes-requires-clause-tags
page_changes-requires-clause-tags c =
    first-tags c.args.deltas.now c.loop-rest.rest c.loop-rest.tags.items c.remove-own.result c.remove-own.ensures.value
    (omega (arith, c.loop-rest.invariant.left)) c.loop-rest.invariant.tags_are

pub loop-rest-preserved : goal.loop-rest-preserved
loop-rest-preserved c =
    let rest = c.loop-rest.rest in
    let deltas = c.args.deltas.now in
    let lists = c.loop-rest.lists.items in
    let new = c.in_ok-page_changes.field-0 in
    record {
      left = omega (arith, c.loop-rest.invariant.left, c.remove-own.ensures.len);
      tags_are = rw c.remove-own.ensures.items
          (other-tags deltas rest c.loop-rest.tags.items (omega (arith, c.loop-rest.invariant.left))
          c.loop-rest.invariant.tags_are);
      long = omega (
        arith,
        ap length c.in_ok-push.ensures.items,
        length_push lists new,
        c.loop-rest.invariant.long,
      );
      made = rw c.in_ok-push.ensures.items
          (keyed-more deltas rest lists new c.loop-rest.invariant.long c.in_ok-page_changes.ensures
          c.loop-rest.invariant.made);
    }
