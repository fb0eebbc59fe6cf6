use Rattle.std.proofs.Common.{◌≡◌, ℕ, ◌+◌, ◌*◌, ◌/◌, ◌%◌, ◌<◌, ◌∙◌, ◌++◌, ◌∷◌, List, decimal, refl, sym, ap, arith}
use Rattle.query_report.specs.Decimal.{decimal4_text}
use Rattle.query_report.specs.Field.{two_digits}
use Rattle.query_report.proofs.Digits.{four_digits-pairs}
use Rattle.query_report.proofs.Reading.{reads-and, passes-then, reads-as, reads-not}
use Rattle.query_report.proofs.reader.Reader.decimal4.Goals as goal

-- the whole units, and the fraction in pairs of digits
parts : ℕ → ℕ × (ℕ × ℕ)
parts n = (n / 10_000, (n % 10_000 / 100, n % 10_000 % 100))

text_of : ℕ × (ℕ × ℕ) → List ℕ
text_of p = decimal p.0 ++ (46 ∷ (two_digits p.1.0 ++ two_digits p.1.1))

text_is : (n : ℕ) → decimal4_text n ≡ text_of (parts n)
unfolding parts text_of
text_is n = ap (λ digits. decimal (n / 10_000) ++ 46 ∷ digits) (four_digits-pairs (n % 10_000) (omega arith))

parts_are : (n whole high low : ℕ) → n ≡ whole * 10_000 + (high * 100 + low) → high < 100 → low < 100
    → parts n ≡ (whole, (high, low))
unfolding parts
parts_are n whole high low is few less =
    let a : n / 10_000 ≡ whole = omega arith in
    let b : n % 10_000 / 100 ≡ high = omega arith in
    let c : n % 10_000 % 100 ≡ low = omega arith in
    rw (a, b, c) refl

whole_is : (n whole high low : ℕ) → parts n ≡ (whole, (high, low)) → n ≡ whole * 10_000 + (high * 100 + low)
unfolding parts
whole_is n whole high low e =
    let a : n / 10_000 ≡ whole = ap (λ p. p.0) e in
    let b : n % 10_000 / 100 ≡ high = ap (λ p. p.1.0) e in
    let c : n % 10_000 % 100 ≡ low = ap (λ p. p.1.1) e in omega arith

pub returns-in-Some : goal.returns-in-Some
unfolding parts text_of
returns-in-Some c =
    let raw = reads-and c.number-whole.ensures.reads (passes-then c.label.ensures
    (reads-and c.pair-high.ensures.reads c.pair-low.ensures.reads (λ n rest fit ends. tt)) (λ n rest fit ends. tt))
    (λ n rest fit ends. refl) in
    let units = c.in-Some.units in
    let is : units ≡ c.number-whole.result * 10_000 + (c.pair-high.result * 100 + c.pair-low.result) =
    omega (arith, c.in-Some.ensures.some) in
    let are = parts_are units c.number-whole.result c.pair-high.result c.pair-low.result is c.pair-high.ensures.within c.pair-low.ensures.within in
    reads-as _ _ units parts raw (λ rest e. text_is units ∙ ap text_of are)
    (λ n fits. (omega arith, (omega arith, omega arith))) (λ n fits. text_is n)
    (λ n fits e. whole_is n c.number-whole.result c.pair-high.result c.pair-low.result e ∙ sym is)

pub returns-in-None : goal.returns-in-None
unfolding parts text_of
returns-in-None c =
    let raw = reads-and c.number-whole.ensures.reads (passes-then c.label.ensures
    (reads-and c.pair-high.ensures.reads c.pair-low.ensures.reads (λ n rest fit ends. tt)) (λ n rest fit ends. tt))
    (λ n rest fit ends. refl) in
    reads-not _ _ _ _ parts raw c.expect.ensures
    (λ n fits. (omega arith, (omega arith, omega arith))) (λ n fits. text_is n)
    (λ n fits e. let is = whole_is n c.number-whole.result c.pair-high.result c.pair-low.result e in
    omega (arith, fits, c.in-None.ensures.none))
