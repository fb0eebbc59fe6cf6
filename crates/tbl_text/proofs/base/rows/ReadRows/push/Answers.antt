use Rattle.std.proofs.Common.{◌∙◌, sym, ap, Some}
use Rattle.tbl_text.specs.ReadRows.{is_above}
use Rattle.tbl_text.proofs.RisingKeys.{HasRisingKeys-push_iff, last_key-push}
use Rattle.tbl_text.proofs.base.rows.ReadRows.push.Goals as goal

pub invariant_of-self-2-clause-ends : goal.invariant_of-self-2-clause-ends
invariant_of-self-2-clause-ends c =
    rw c.in_ok-push.ensures.ok (sym (last_key-push c.args.self.now.table (c.args.key, Some c.args.tuple)))

pub invariant_of-self-2-clause-rising : goal.invariant_of-self-2-clause-rising
invariant_of-self-2-clause-rising c =
    let rows = c.args.self.now in
    let above = c.is_above.ensures ∙ ap (is_above c.args.key) rows.ends in
    rw c.in_ok-push.ensures.ok
    (HasRisingKeys-push_iff rows.table (c.args.key, Some c.args.tuple) rows.are_rising c.is_above.result rows.rising
    above)
