use Rattle.std.proofs.Common.{length, ap, arith, refl}
use Rattle.std.proofs.lemmas.List.{length_push}
use Rattle.query_report.proofs.Journals.{journal-reads}
use Rattle.query_report.proofs.Reading.{reads-none, reads-more, then-passes}
use Rattle.query_report.proofs.reader.Reader.journal.Goals as goal

pub loop-place-init : goal.loop-place-init
loop-place-init c = record {
  reads = reads-none c.new-deltas.ensures;
  count = ap length c.new-deltas.ensures;
}

pub loop-place-preserved : goal.loop-place-preserved
loop-place-preserved c = record {
  reads = reads-more c.loop-place.invariant.reads c.delta.ensures (omega arith) c.in_ok-push.ensures.ok
      (λ y left rest is ends. tt) (λ rest is ends e. omega arith);
  count = omega (arith, ap length c.in_ok-push.ensures.ok, length_push c.loop-place.deltas c.delta.result);
}

pub returns : goal.returns
returns c =
    journal-reads (then-passes c.field-count.ensures c.end_line.ensures
    (λ rest ends. refl)) c.loop-place.invariant.reads
    (λ rest e. omega arith)
