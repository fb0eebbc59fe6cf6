use Rattle.std.proofs.Common.{◌∙◌, sym}
use Rattle.tbl_text.proofs.SortedEntries.{entries_of-more}
use Rattle.tbl_text.proofs.base.repeats.sorted_entries.Goals as goal

pub loop-row-preserved : goal.loop-row-preserved
loop-row-preserved c =
    let read = sym c.row.ensures ∙ c.unwrap-key.ensures in
    rw (c.in_ok-push.ensures.items, c.loop-row.invariant)
    (entries_of-more c.args.table.now c.loop-row.row c.unwrap-key.result read)
