use Rattle.std.proofs.Common.{◌+◌, length, ap, arith}
use Rattle.std.proofs.lemmas.List.{length_push, length-append, nil_from_length}
use Rattle.query_report.proofs.Reading.{reads-none, reads-more, reads-whole}
use Rattle.query_report.proofs.Workers.{worker_done, worker_goes}
use Rattle.query_report.proofs.reader.Reader.replies_of.Goals as goal

pub loop-at-init : goal.loop-at-init
loop-at-init c = record {
  reads = reads-none c.new-list.ensures;
  count = ap length c.new-list.ensures;
}

pub returns-then-not-is_at_worker : goal.returns-then-not-is_at_worker
returns-then-not-is_at_worker c =
    reads-whole c.loop-at.invariant.reads (λ left rest is ends e.
    worker_done c.args.worker _ left rest c.loop-at.self (omega arith) c.if-not-is_at_worker.ensures e)

pub loop-at-preserved : goal.loop-at-preserved
loop-at-preserved c = record {
  reads = reads-more {n = c.loop-at.at + 1} c.loop-at.invariant.reads c.in_ok-reply_line.ensures
      (omega arith) c.in_ok-push.ensures.ok
      (λ reply left rest is ends. tt)
      (λ rest is ends e. worker_goes c.args.worker rest c.loop-at.self c.if-not-is_at_worker.ensures ends e);
  count = omega (arith, ap length c.in_ok-push.ensures.ok, length_push c.loop-at.list c.in_ok-reply_line.field-0);
}

pub returns : goal.returns
returns c =
    reads-whole c.loop-at.invariant.reads
    (λ left rest is ends e. nil_from_length left (omega (arith, is, length-append c.loop-at.list left)))
