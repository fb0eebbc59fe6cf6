use Rattle.std.proofs.Common.{◌≡◌, ℕ, ◌+◌, ◌*◌, ◌/◌, ◌%◌, ◌<◌, ◌∙◌, ◌++◌, ◌∷◌, [], List, decimal, refl, sym, ap, arith}
use Rattle.query_report.specs.Field.{field, two_digits}
use Rattle.query_report.specs.TupleText.{hundredths_text}
use Rattle.query_report.proofs.Digits.{two_digits-rest}
use Rattle.query_report.proofs.Reading.{reads-and, passes-then, reads-as, reads-not}
use Rattle.query_report.proofs.reader.Reader.hundredths.Goals as goal

-- the whole part and the decimals
parts : ℕ → ℕ × ℕ
parts n = (n / 100, n % 100)

text_of : ℕ × ℕ → List ℕ
text_of p = field (124 ∷ []) p.0 ++ (46 ∷ two_digits p.1)

text_is : (n : ℕ) → hundredths_text n ≡ text_of (parts n)
unfolding parts text_of field
text_is n = ap (λ digits. 124 ∷ (decimal (n / 100) ++ 46 ∷ digits)) (two_digits-rest n)

parts_are : (n whole part : ℕ) → n ≡ whole * 100 + part → part < 100 → parts n ≡ (whole, part)
unfolding parts
parts_are n whole part is few =
    let a : n / 100 ≡ whole = omega arith in
    let b : n % 100 ≡ part = omega arith in rw (a, b) refl

whole_is : (n whole part : ℕ) → parts n ≡ (whole, part) → n ≡ whole * 100 + part
unfolding parts
whole_is n whole part e =
    let a : n / 100 ≡ whole = ap (λ p. p.0) e in
    let b : n % 100 ≡ part = ap (λ p. p.1) e in omega arith

pub returns-clause-reads : goal.returns-clause-reads
unfolding parts text_of
returns-clause-reads c =
    let whole = c.field-whole.result in
    let part = c.pair-part.result in
    let n = c.from.result * 100 + c.from-2.result in
    let is : n ≡ whole * 100 + part = omega (arith, c.from.ensures, c.from-2.ensures) in
    let raw = reads-and c.field-whole.ensures (passes-then c.label.ensures c.pair-part.ensures.reads
    (λ n rest fit ends. tt)) (λ n rest fit ends. refl) in
    reads-as _ _ n parts raw (λ rest e. text_is n ∙ ap text_of (parts_are n whole part is c.pair-part.ensures.within))
    (λ x fits. (omega arith, omega arith)) (λ x fits. text_is x) (λ x fits e. whole_is x whole part e ∙ sym is)

pub returns-then-number-from-clause-reads : goal.returns-then-number-from-clause-reads
unfolding parts text_of
returns-then-number-from-clause-reads c =
    let raw = reads-and c.field-whole.ensures (passes-then c.label.ensures c.pair-part.ensures.reads
    (λ n rest fit ends. tt)) (λ n rest fit ends. refl) in
    reads-not _ _ _ _ parts raw c.expect.ensures (λ x fits. (omega arith, omega arith)) (λ x fits. text_is x)
    (λ x fits e. let is = whole_is x c.field-whole.result c.pair-part.result e in
    omega (arith, c.from.ensures, c.from-2.ensures, c.from-3.ensures))
