use Rattle.tbl_text.proofs.TakenTail.{front_text, ends_line}
use Rattle.tbl_text.proofs.fast.LineCursor.tail.Goals as goal

pub is_five_fields-requires-clause-text : goal.is_five_fields-requires-clause-text
is_five_fields-requires-clause-text c =
    rw (c.split_at.ensures.front, c.in_ok-len.ensures.len) (front_text c.args.self.now.rest.now)

pub returns : goal.returns
returns c =
    let cut = c.split_at.ensures in
    ends_line c.args.self.now.rest.now _ _ _ _ c.in_ok-len.ensures.len cut.front cut.back
    c.if-not-is_five_fields.ensures c.in_ok-self.ensures
