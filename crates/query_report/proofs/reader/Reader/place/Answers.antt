use Rattle.std.proofs.Common.{ℕ, refl, ap, arith}
use Rattle.cubit_base.specs.Key.{KeyValue}
use Rattle.query_report.specs.Field.{field}
use Rattle.query_report.specs.Journal.{place_text}
use Rattle.query_report.proofs.Reading.{reads-and, passes-then, reads-as}
use Rattle.query_report.proofs.reader.Reader.place.Goals as goal

made : ℕ × (ℕ × (ℕ × ℕ)) → ℕ × KeyValue × ℕ
made p = (p.0, record { order = p.1.0; line = p.1.1.0 }, p.1.1.1)

pub returns : goal.returns
unfolding made place_text field
returns c =
    let raw = passes-then c.exactly.ensures (reads-and c.field_within-author.ensures.reads
    (reads-and c.field_within-order.ensures.reads (reads-and c.field_within-line.ensures.reads c.field-row.ensures
    (λ n rest fit ends. refl)) (λ n rest fit ends. refl)) (λ n rest fit ends. refl)) (λ n rest fit ends. refl) in
    reads-as _ _ _ (λ (p : ℕ × KeyValue × ℕ). (p.0, (p.1.order, (p.1.line, p.2)))) raw (λ rest e. refl)
    (λ p fits. (
      (omega arith, fits.0),
      (
        (fits.1.1.order, omega (arith, fits.1.0)),
        ((fits.1.1.line_low, fits.1.1.line_high), fits.2),
      ),
    )) (λ p fits. refl) (λ p fits e. ap made e)
