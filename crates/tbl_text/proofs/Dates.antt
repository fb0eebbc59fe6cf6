-- A date by its four pairs of digits.
use Rattle.std.proofs.Common.{◌≡◌, ℕ, ◌+◌, ◌*◌, List, [], ◌∷◌, length, get_or, refl, ap, ◌∙◌, arith}
use Rattle.std.proofs.lemmas.Slice.Eq.{text_from_reads}
use Rattle.cubit_base.specs.Day.{day_value}
use Rattle.tbl_text.specs.Field.{IsPair, spelled, date_value}

-- four digits by their pairs
spelled-pairs : (a b c d century year : ℕ) → IsPair a b century → IsPair c d year
    → spelled (a ∷ b ∷ c ∷ d ∷ []) ≡ century * 100 + year
spelled-pairs a b c d century year first second = omega arith

-- two digits
spelled-pair : (a b n : ℕ) → IsPair a b n → spelled (a ∷ b ∷ []) ≡ n
spelled-pair a b n pair = omega arith

-- a date by its digits
date_value-digits : (a b c d e f g h century year month day : ℕ) → IsPair a b century → IsPair c d year
    → IsPair e f month → IsPair g h day
    → date_value (a ∷ b ∷ c ∷ d ∷ 45 ∷ e ∷ f ∷ 45 ∷ g ∷ h ∷ []) ≡ day_value (century * 100 + year) month day
date_value-digits a b c d e f g h century year month day one two three four =
    rw (
      one.tens_digit,
      one.ones_digit,
      two.tens_digit,
      two.ones_digit,
      three.tens_digit,
      three.ones_digit,
      four.tens_digit,
      four.ones_digit,
    )
    (rw (spelled-pairs a b c d century year one two, spelled-pair e f month three, spelled-pair g h day four) refl)

-- ten bytes with hyphens between digits
pub date_value-pairs : (field : List ℕ) (century year month day : ℕ) → length field ≡ 10 → get_or field 4 0 ≡ 45
    → get_or field 7 0 ≡ 45
    → IsPair (get_or field 0 0) (get_or field 1 0) century → IsPair (get_or field 2 0) (get_or field 3 0) year
    → IsPair (get_or field 5 0) (get_or field 6 0) month → IsPair (get_or field 8 0) (get_or field 9 0) day
    → date_value field ≡ day_value (century * 100 + year) month day
date_value-pairs field century year month day len first second one two three four =
    let at = λ (i : ℕ). get_or field i 0 in
    let bytes : List ℕ = at 0 ∷ at 1 ∷ at 2 ∷ at 3 ∷ 45 ∷ at 5 ∷ at 6 ∷ 45 ∷ at 8 ∷ at 9 ∷ [] in
    let is : field ≡ bytes =
    text_from_reads field bytes len
    (refl, (refl, (refl, (refl, (first, (refl, (refl, (second, (refl, (refl, tt)))))))))) in
    ap date_value is ∙ date_value-digits _ _ _ _ _ _ _ _ century year month day one two three four
