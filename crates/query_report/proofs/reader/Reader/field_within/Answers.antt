use Rattle.std.proofs.Common.{ℕ, ◌≤◌, arith, refl, sym}
use Rattle.query_report.proofs.Reading.{field-reads, reads-fails, reads-is}
use Rattle.query_report.proofs.reader.Reader.field_within.Goals.{then-number-from-via-then-number-from, then-number-from-via-else-number-from+then-number-from-2}
use Rattle.query_report.proofs.reader.Reader.field_within.Goals as goal

pub returns-clause-reads : goal.returns-clause-reads
returns-clause-reads c =
    field-reads (λ (n : ℕ). (c.args.least ≤ n) × (n ≤ c.args.most)) c.label.ensures c.number-number.ensures.reads
    (λ n fits. omega arith)

pub returns-then-number-from-clause-reads : goal.returns-then-number-from-clause-reads
returns-then-number-from-clause-reads c =
    let reads = field-reads (λ (n : ℕ). (c.args.least ≤ n) × (n ≤ c.args.most)) c.label.ensures
    c.number-number.ensures.reads (λ n fits. omega arith) in
    reads-is _ _ c.expect.new.self (reads-fails c.args.least (λ n rest fits ends e.
    let same = (reads.finds n rest fits ends e).0 in
    elim c.then-number-from.branch [
      | then-number-from-via-then-number-from w ↦ omega arith
      | then-number-from-via-else-number-from+then-number-from-2 w ↦ omega arith
    ])) refl refl (sym c.expect.ensures)
