use Rattle.std.proofs.Common.{◌∙◌, sym, ap, subst, arith}
use Rattle.unit_version.specs.KeyedRow.{by_row, AreApart}
use Rattle.unit_version.proofs.KeyPages.{AreApart-keyed_from, by_row-keyed_from}
use Rattle.unit_version.proofs.Contents.{AreContents-more}
use Rattle.unit_version.specs.declared.unit.Unit.TheVariants as unit
use Rattle.unit_version.proofs.SplitRows.{first-list, other-lists}
use Rattle.unit_version.proofs.keys.key_pages.Goals as goal

pub of_entries-requires : goal.of_entries-requires
of_entries-requires c =
    let rest = c.loop-rest.rest in
    let own = first-list c.args.table.now rest c.loop-rest.lists.items c.remove-entries.result
    c.remove-entries.ensures.value (omega arith) c.loop-rest.invariant.lists in
    record {
      low = c.loop-rest-test.true;
      apart = subst AreApart (sym own) (AreApart-keyed_from rest c.args.table.now c.requires);
    }

pub loop-rest-preserved : goal.loop-rest-preserved
loop-rest-preserved c =
    let rest = c.loop-rest.rest in
    let table = c.args.table.now in
    let own = first-list table rest c.loop-rest.lists.items c.remove-entries.result c.remove-entries.ensures.value
    (omega arith) c.loop-rest.invariant.lists in
    let made = c.in_ok-of_entries.ensures ∙ ap by_row own ∙ by_row-keyed_from rest table in
    record {
      left = omega (arith, c.loop-rest.invariant.left, c.remove-entries.ensures.len);
      lists = rw c.remove-entries.ensures.items
          (other-lists table rest c.loop-rest.lists.items (omega arith) c.loop-rest.invariant.lists);
      made = rw (c.in_ok-push.ensures.items, made) (AreContents-more unit.Keys table rest c.loop-rest.pages.items
          c.loop-rest.invariant.made);
    }
