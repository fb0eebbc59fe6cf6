use Rattle.std.proofs.Common.{ℕ, refl, ap}
use Rattle.query_report.proofs.Reading.{field-ends, reads-and, reads-as}
use Rattle.query_report.proofs.reader.Reader.three.Goals as goal

flat : (ℕ × ℕ) × ℕ → ℕ × ℕ × ℕ
flat n = (n.0.0, n.0.1, n.1)

pub returns : goal.returns
unfolding flat
returns c =
    reads-as _ _ _ (λ (n : ℕ × ℕ × ℕ). ((n.0, n.1), n.2))
    (reads-and c.two-first.ensures c.field-third.ensures
    (λ n rest fit ends. field-ends c.args.last.now n rest c.requires.last))
    (λ rest e. refl) (λ n fits. ((fits.0, fits.1), fits.2)) (λ n fits. refl) (λ n fits e. ap flat e)
