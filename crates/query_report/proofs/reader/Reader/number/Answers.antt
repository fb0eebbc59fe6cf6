use Rattle.std.proofs.Common.{◌≡◌, ℕ, ◌<◌, ◌∙◌, List, take, drop, refl, sym, ap, arith, rules, None, true≢false}
use Rattle.std.specs.List.{AllPass, prefix_len}
use Rattle.std.proofs.lemmas.List.{get_or-take}
use Rattle.std.proofs.lemmas.List.Folds.{length-prefix_len}
use Rattle.std.proofs.lemmas.List.Sums.{prefix_len-le-length, prefix_len_passes}
use Rattle.query_report.specs.Reading.{IsNumeral, is_digit, spelled}
use Rattle.query_report.proofs.Front.{left_of, digits_of, behind, number-some, number-none}
use Rattle.query_report.proofs.Reading.{reads-is}
use Rattle.query_report.proofs.reader.Reader.number.Goals as goal

pub split_at-requires : goal.split_at-requires
split_at-requires c = omega (arith, prefix_len-le-length is_digit c.self.inside.rest.now)

pub spelled-requires-clause-digits : goal.spelled-requires-clause-digits
spelled-requires-clause-digits c = rw (c.split_at.ensures.front, c.digit_count.ensures) (digits c.self.inside.rest.now)
  where
    digits : (bytes : List ℕ) → AllPass is_digit (take (prefix_len is_digit bytes) bytes)
    digits bytes k d below =
        let within : k < prefix_len is_digit bytes = omega (arith, length-prefix_len is_digit bytes) in
        rw (get_or-take (prefix_len is_digit bytes) bytes k d within) (prefix_len_passes is_digit bytes k d within)

pub returns-clause-reads : goal.returns-clause-reads
returns-clause-reads c =
    let bytes = c.self.inside.rest.now in
    let fine = c.self.inside.is_fine in
    let digits : c.split_at.result.0.now ≡ digits_of bytes =
    c.split_at.ensures.front ∙ ap (λ n. take n bytes) c.digit_count.ensures in
    let rest : c.split_at.result.1.now ≡ behind bytes =
    c.split_at.ensures.back ∙ ap (λ n. drop n bytes) c.digit_count.ensures in
    let value : c.spelled.result ≡ spelled (digits_of bytes) = c.spelled.ensures.value ∙ ap spelled digits in
    let is : IsNumeral (digits_of bytes) = rw (← digits) (c.is_numeral.ensures.0
    (let yes = c.if-not-is_numeral.false in search rules)) in
    reads-is c.args.self.now c.spelled.result (left_of fine c.split_at.result.1.now)
    (number-some bytes fine is (omega (arith, value))) c.self.view_is (sym value) (ap (left_of fine) (sym rest))

pub returns-then-not-is_numeral-clause-reads : goal.returns-then-not-is_numeral-clause-reads
returns-then-not-is_numeral-clause-reads c =
    let bytes = c.self.inside.rest.now in
    let digits : c.split_at.result.0.now ≡ digits_of bytes =
    c.split_at.ensures.front ∙ ap (λ n. take n bytes) c.digit_count.ensures in
    let other : IsNumeral (digits_of bytes) → ⊥ =
    λ is. true≢false (sym (let yes = c.is_numeral.ensures.1 (rw digits is) in search rules)
    ∙ c.if-not-is_numeral.true) in
    reads-is c.args.self.now 0 None (number-none bytes c.self.inside.is_fine 0 other) c.self.view_is refl refl
