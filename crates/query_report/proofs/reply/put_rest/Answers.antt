use Rattle.std.proofs.Common.{◌≡◌, ◌+◌, ◌++◌, codes, drop, get_or, ap, ◌∙◌, arith}
use Rattle.std.proofs.lemmas.List.{at_drop_more, at_drop_all}
use Rattle.query_report.specs.Field.{field, each_text}
use Rattle.query_report.specs.Reply.{more_text}
use Rattle.query_report.proofs.Writing.{writes_more, writes_all}
use Rattle.query_report.proofs.reply.put_rest.Goals as goal

pub loop-row-preserved : goal.loop-row-preserved
unfolding each_text
loop-row-preserved c =
    let list = c.args.list.now in
    let at = c.loop-row.row-index in
    let rest = more_text (1 + (at + 1)) (drop (at + 1) list) in
    let next : 1 + at + 1 ≡ 1 + (at + 1) = omega arith in
    let cut : more_text (1 + at) (drop at list) ≡ field (codes ",") (get_or list at 0) ++ rest =
    at_drop_more (more_text (1 + at)) list at 0 (omega arith)
    ∙ ap (λ n. field (codes ",") (get_or list at 0) ++ more_text n (drop (at + 1) list)) next in
    writes_more c.loop-row.text.items _ _ rest _ _ c.in_ok-put_field.ensures cut c.loop-row.invariant

pub returns : goal.returns
unfolding each_text
returns c =
    let at = c.loop-row.row-index in
    let done = at_drop_all (more_text (1 + at)) c.args.list.now at (omega arith) in
    writes_all c.loop-row.text.items _ _ done c.loop-row.invariant
