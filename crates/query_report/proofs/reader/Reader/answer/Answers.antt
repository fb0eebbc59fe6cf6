use Rattle.std.proofs.Common.{ℕ, refl, ap}
use Rattle.query_report.proofs.Reading.{reads-and, passes-then, reads-as}
use Rattle.query_report.proofs.reader.Reader.answer.Goals as goal

flat : (ℕ × ℕ) × (ℕ × ℕ) → ℕ × ℕ × ℕ × ℕ
flat s = (s.0.0, s.0.1, s.1.0, s.1.1)

pub returns : goal.returns
unfolding flat
returns c =
    reads-as _ _ _ (λ (s : ℕ × ℕ × ℕ × ℕ). ((s.0, s.1), (s.2, s.3)))
    (reads-and c.two-front.ensures (passes-then c.label.ensures
    (reads-and c.decimal4-sum.ensures c.field-patched.ensures (λ n rest fit ends. tt))
    (λ n rest fit ends. tt)) (λ n rest fit ends. refl))
    (λ rest e. refl) (λ s fits. ((fits.0, fits.1), (fits.2, fits.3))) (λ s fits. refl) (λ s fits e. ap flat e)
