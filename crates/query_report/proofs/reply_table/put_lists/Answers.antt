use Rattle.std.proofs.Common.{◌≡◌, ◌+◌, ◌++◌, drop, sym, ap, ◌∙◌, arith}
use Rattle.std.proofs.lemmas.List.{at_drop_more, at_drop_all}
use Rattle.query_report.specs.Field.{each_text}
use Rattle.query_report.specs.Report.{reply_lines, worker_lines}
use Rattle.query_report.proofs.Writing.{writes_more, writes_all}
use Rattle.query_report.proofs.reply_table.put_lists.Goals as goal

pub loop-worker-preserved : goal.loop-worker-preserved
unfolding each_text
loop-worker-preserved c =
    let lists = c.args.lists.now in
    let worker = c.loop-worker.worker in
    let list = c.index-lists-worker.result in
    let rest = reply_lines (worker + 1) (drop (worker + 1) lists) in
    let cut : reply_lines worker (drop worker lists) ≡ worker_lines worker 1 list ++ rest =
    at_drop_more (reply_lines worker) lists worker list (omega arith)
    ∙ ap (λ list. worker_lines worker 1 list ++ rest) (sym c.index-lists-worker.is) in
    writes_more c.loop-worker.text.items _ (worker_lines worker 1 list) rest _ _ c.in_ok-put_lines.ensures cut
    c.loop-worker.invariant

pub returns : goal.returns
unfolding each_text
returns c =
    let worker = c.loop-worker.worker in
    let done = at_drop_all (reply_lines worker) c.args.lists.now worker (omega arith) in
    writes_all c.loop-worker.text.items _ _ done c.loop-worker.invariant
