-- The reading of a journal.
use Rattle.std.proofs.Common.{◌≡◌, ℕ, ◌∙◌, List, ◌++◌, length, codes, Some, refl, ap, arith}
use Rattle.std.proofs.lemmas.List.{length-append, nil_from_length}
use Rattle.std.specs.List.{AllByRecursion}
use Rattle.cubit_base.specs.declared.delta.Delta.{Delta}
use Rattle.query_report.specs.Field.{field}
use Rattle.query_report.specs.Journal.{delta_line, delta_lines, journal_bytes}
use Rattle.query_report.specs.Reading.{Left, Reads, Anything, IsNumber}
use Rattle.query_report.specs.Report.{IsDelta, IsJournal}
use Rattle.query_report.proofs.Reading.{ReadsSome, reads-given, reads-as, reads-whole}

-- its number of deltas, and as many deltas
pub journal-reads : {before mid now : Left} {count : ℕ} {deltas : List Delta}
    → Reads (λ n. field (codes "journal ") n ++ codes "\n") IsNumber Anything before count mid
    → ReadsSome delta_line IsDelta (λ deltas. length deltas ≡ count) Anything 0 mid deltas now
    → ((rest : List ℕ) → now ≡ Some rest → length deltas ≡ count)
    → Reads journal_bytes IsJournal Anything before deltas now
journal-reads {count = count} {deltas = deltas} head some all =
    let whole = reads-whole some (λ left rest is ends e.
    nil_from_length left (omega (arith, is, all _ e, length-append deltas left))) in
    let raw = reads-given (λ (p : ℕ × List Delta). IsNumber p.0 × (length p.1 ≡ p.0) × AllByRecursion IsDelta p.1)
    head whole (λ p fits. fits.0) (λ p fits is. (fits.1 ∙ is, fits.2)) (λ p rest fits ends. tt) in
    reads-as journal_bytes IsJournal deltas (λ deltas. (length deltas, deltas)) raw
    (λ rest e. ap (λ n. (field (codes "journal ") n ++ codes "\n") ++ delta_lines 0 deltas) (all rest e))
    (λ deltas fits. (fits.0, refl, fits.1)) (λ deltas fits. refl) (λ deltas fits e. ap (λ p. p.1) e)
