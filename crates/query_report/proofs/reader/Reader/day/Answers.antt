use Rattle.std.proofs.Common.{◌≡◌, ℕ, ◌+◌, ◌*◌, ◌/◌, ◌%◌, ◌<◌, ◌≤◌, ◌∙◌, ◌++◌, ◌∷◌, List, Some, None, refl, sym, ap, arith}
use Rattle.cubit_base.specs.Day.{day_value}
use Rattle.query_report.specs.Date.{DateValue, date_at, date_text, ymd_text}
use Rattle.query_report.specs.Field.{two_digits}
use Rattle.query_report.proofs.Calendar.{date_at-value, day_value-date_at, date_at-within}
use Rattle.query_report.proofs.Digits.{four_digits-pairs}
use Rattle.query_report.proofs.Reading.{reads-and, passes-then, reads-as, reads-not}
use Rattle.query_report.proofs.reader.Reader.day.Goals as goal

-- a date in pairs of digits
parts : DateValue → ℕ × (ℕ × (ℕ × ℕ))
parts d = (d.year / 100, (d.year % 100, (d.month, d.day)))

text_of : ℕ × (ℕ × (ℕ × ℕ)) → List ℕ
text_of p = two_digits p.0 ++ (two_digits p.1.0 ++ (45 ∷ (two_digits p.1.1.0 ++ (45 ∷ two_digits p.1.1.1))))

text_is : (d : DateValue) → d.year < 10_000 → ymd_text d ≡ text_of (parts d)
unfolding parts text_of
text_is d small = ap (λ year. year ++ 45 ∷ two_digits d.month ++ 45 ∷ two_digits d.day) (four_digits-pairs d.year small)

date_is : (n : ℕ) → n ≤ 2556 → date_text n ≡ text_of (parts (date_at n))
unfolding date_text
date_is n within = text_is (date_at n) (date_at-within n within).0

-- the day of these pairs
value_is : (n century year month day : ℕ) → n ≤ 2556 → parts (date_at n) ≡ (century, (year, (month, day)))
    → day_value (century * 100 + year) month day ≡ Some n
unfolding parts
value_is n century year month day within e =
    let d = date_at n in
    let a : century * 100 + year ≡ d.year = omega (arith, sym (ap (λ p. p.0) e), sym (ap (λ p. p.1.0) e)) in
    rw (a, sym (ap (λ p. p.1.1.0) e), sym (ap (λ p. p.1.1.1) e)) (day_value-date_at n within)

-- and the pairs of this day
parts_are : (n century year month day : ℕ) → n ≤ 2556 → year < 100 → day_value (century * 100 + year) month day ≡ Some n
    → parts (date_at n) ≡ (century, (year, (month, day)))
unfolding parts
parts_are n century year month day within few is =
    let a : (century * 100 + year) / 100 ≡ century = omega arith in
    let b : (century * 100 + year) % 100 ≡ year = omega arith in
    ap (λ d. (d.year / 100, (d.year % 100, (d.month, d.day)))) (date_at-value
    (century * 100 + year) month day n within is) ∙ rw (a, b) refl

few : (n : ℕ) → n ≤ 2556 → ((date_at n).year / 100 < 100) × ((date_at n).year % 100 < 100) × ((date_at n).month < 100)
    × ((date_at n).day < 100)
few n within = let is = date_at-within n within in (omega arith, omega arith, is.1, is.2)

same : (a b : ℕ) → Some a ≡ Some b → a ≡ b
same a b e = cc

none : (a : ℕ) → None ≡ Some a → ⊥
none a e = cc

pub returns-in-Some-clause-reads : goal.returns-in-Some-clause-reads
unfolding parts text_of
returns-in-Some-clause-reads c =
    let century = c.pair-century.result in
    let year = c.pair-year.result in
    let month = c.pair-month.result in
    let day = c.pair-day.result in
    let n = c.in-Some.number in
    let raw = reads-and c.pair-century.ensures.reads (reads-and c.pair-year.ensures.reads
    (passes-then c.label.ensures (reads-and c.pair-month.ensures.reads
    (passes-then c.label-2.ensures c.pair-day.ensures.reads
    (λ n rest fit ends. tt)) (λ n rest fit ends. tt)) (λ n rest fit ends. tt))
    (λ n rest fit ends. tt)) (λ n rest fit ends. tt) in
    let is : day_value (century * 100 + year) month day ≡ Some n =
    rw (← c.from.ensures, ← c.from-2.ensures) (sym c.in-Some.ensures.value) in
    reads-as _ _ n (λ n. parts (date_at n)) raw
    (λ rest e. date_is n c.in-Some.ensures.within
    ∙ ap text_of (parts_are n century year month day c.in-Some.ensures.within c.pair-year.ensures.within is))
    (λ x fits. let is = few x fits in (is.0, (is.1, (is.2, is.3)))) (λ x fits. date_is x fits)
    (λ x fits e. same x n (sym (value_is x century year month day fits e) ∙ is))

pub returns-in-None-clause-reads : goal.returns-in-None-clause-reads
unfolding parts text_of
returns-in-None-clause-reads c =
    let raw = reads-and c.pair-century.ensures.reads (reads-and c.pair-year.ensures.reads
    (passes-then c.label.ensures (reads-and c.pair-month.ensures.reads
    (passes-then c.label-2.ensures c.pair-day.ensures.reads
    (λ n rest fit ends. tt)) (λ n rest fit ends. tt)) (λ n rest fit ends. tt))
    (λ n rest fit ends. tt)) (λ n rest fit ends. tt) in
    let is = rw (c.from.ensures, c.from-2.ensures) at c.in-None.ensures.value in
    reads-not _ _ _ _ (λ n. parts (date_at n)) raw c.expect.ensures
    (λ x fits. let is = few x fits in (is.0, (is.1, (is.2, is.3)))) (λ x fits. date_is x fits)
    (λ x fits e. none x (is ∙ value_is x c.pair-century.result c.pair-year.result c.pair-month.result c.pair-day.result fits e))
