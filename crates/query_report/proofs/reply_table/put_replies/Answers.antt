use Rattle.std.proofs.Common.{◌≡◌, ◌+◌, ◌++◌, drop, sym, ap, ◌∙◌, arith}
use Rattle.std.proofs.lemmas.List.{at_drop_more, at_drop_all}
use Rattle.query_report.specs.Field.{each_text}
use Rattle.query_report.specs.Reply.{reply_line}
use Rattle.query_report.specs.Report.{worker_lines}
use Rattle.query_report.proofs.Writing.{writes_more, writes_all}
use Rattle.query_report.proofs.reply_table.put_replies.Goals as goal

pub loop-at-preserved : goal.loop-at-preserved
unfolding each_text
loop-at-preserved c =
    let replies = c.args.replies.now in
    let worker = c.args.worker in
    let at = c.loop-at.at in
    let reply = c.index-replies-at.result in
    let rest = worker_lines worker (at + 1 + 1) (drop (at + 1) replies) in
    let cut : worker_lines worker (at + 1) (drop at replies) ≡ reply_line worker (at + 1) reply ++ rest =
    at_drop_more (worker_lines worker (at + 1)) replies at reply (omega arith)
    ∙ ap (λ reply. reply_line worker (at + 1) reply ++ rest) (sym c.index-replies-at.is) in
    writes_more c.loop-at.text.items _ (reply_line worker (at + 1) reply) rest _ _ c.in_ok-put_reply_line.ensures cut
    c.loop-at.invariant

pub returns : goal.returns
unfolding each_text
returns c =
    let at = c.loop-at.at in
    let done = at_drop_all (worker_lines c.args.worker (at + 1)) c.args.replies.now at (omega arith) in
    writes_all c.loop-at.text.items _ _ done c.loop-at.invariant
