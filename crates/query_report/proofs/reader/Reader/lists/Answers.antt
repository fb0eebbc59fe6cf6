use Rattle.std.proofs.Common.{◌+◌, ◌∙◌, ◌∷◌, length, ap, arith, sym}
use Rattle.std.proofs.lemmas.List.{length_push, length-append, nil_from_length}
use Rattle.query_report.proofs.Reading.{reads-none, reads-more, reads-whole}
use Rattle.query_report.proofs.Workers.{later_ends, lists_done, lists_go}
use Rattle.query_report.proofs.reader.Reader.lists.Goals as goal

pub loop-worker-init : goal.loop-worker-init
loop-worker-init c = record {
  reads = reads-none c.new-lists.ensures.items;
  count = ap length c.new-lists.ensures.items;
}

pub returns-then-not-is_at-clause-reads : goal.returns-then-not-is_at-clause-reads
returns-then-not-is_at-clause-reads c =
    reads-whole c.loop-worker.invariant.reads (λ left rest is ends e.
    lists_done _ c.loop-worker.lists.items left rest c.loop-worker.self is.1 (sym c.is_at.ensures
    ∙ c.if-not-is_at.true) e)

pub loop-worker-preserved : goal.loop-worker-preserved
loop-worker-preserved c =
    let lists = c.loop-worker.lists.items in
    let worker = c.loop-worker.worker in
    record {
      reads = reads-more {n = worker} c.loop-worker.invariant.reads c.in_ok-replies_of.ensures
          (omega arith) c.in_ok-push.ensures.items
          (λ list left rest is ends. later_ends worker (worker + 1) left rest (omega arith)
          (omega (arith, is.0, length-append lists (list ∷ left))) ends)
          (λ rest is ends e. lists_go rest c.loop-worker.self (sym c.is_at.ensures ∙ c.if-not-is_at.false) ends e);
      count = omega (arith, ap length c.in_ok-push.ensures.items, length_push lists c.in_ok-replies_of.field-0);
    }

pub returns-clause-reads : goal.returns-clause-reads
returns-clause-reads c =
    reads-whole c.loop-worker.invariant.reads
    (λ left rest is ends e. nil_from_length left (omega (arith, is.0, length-append c.loop-worker.lists.items left)))
