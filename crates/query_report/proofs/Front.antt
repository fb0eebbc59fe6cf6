-- What a reader finds at the front of a text.
use Rattle.std.proofs.Common.{◌≡◌, ◌≢◌, ℕ, zero, suc, ◌+◌, ◌<◌, ◌∙◌, Bool, true, false, cond, List, [], ◌∷◌, ◌++◌, length, take, drop, decimal, Some, None, refl, sym, ap, arith, rules}
use Rattle.std.specs.List.{list_all, prefix_len}
use Rattle.std.proofs.lemmas.Bool.{and_parts}
use Rattle.std.proofs.lemmas.Fmt.{digits_decimal, digits_value-decimal, decimal-digits_value, length-decimal-le, decimal_nonempty, decimal_digit, first_decimal}
use Rattle.std.proofs.lemmas.List.{take_at, drop_at, take-append-drop}
use Rattle.std.proofs.lemmas.List.Prefix.{front_rest}
use Rattle.std.proofs.lemmas.Str.Parse.{IsNumeralModel, numerals_by_fold}
use Rattle.query_report.specs.Reading.{Left, Reads, Passes, Anything, EndsNumber, IsNumeral, is_digit, spelled_after, spelled}

-- what is left of a reader's text
abbrev pub left_of : Bool → List ℕ → Left
left_of fine bytes = cond fine (Some bytes) None

same : (a b : List ℕ) → Some a ≡ Some b → a ≡ b
same a b e = cc

-- what is left is there
pub stands : (bytes rest : List ℕ) (fine : Bool) → left_of fine bytes ≡ Some rest → bytes ≡ rest
stands bytes rest false e = absurd cc
stands bytes rest true e = cc

-- a text that stands there is passed over
pub passes-some : (label bytes rest : List ℕ) (fine : Bool) → bytes ≡ label ++ rest
    → Passes label Anything (left_of fine bytes) (left_of fine rest)
passes-some label bytes rest false is = record {
  sound = λ more e. absurd cc;
  finds = λ more _ e. absurd cc;
}
passes-some label bytes rest true is = record {
  sound = λ more e. cc;
  finds = λ more _ e. ap Some (sym (front_rest bytes label rest is) ∙ front_rest bytes label more (same bytes
      (label ++ more) e));
}

-- a reader fails where it does not
pub passes-none : (label bytes : List ℕ) (fine : Bool) → ((rest : List ℕ) → bytes ≢ label ++ rest)
    → Passes label Anything (left_of fine bytes) None
passes-none label bytes false other = record {
  sound = λ more e. absurd cc;
  finds = λ more _ e. absurd cc;
}
passes-none label bytes true other = record {
  sound = λ more e. absurd cc;
  finds = λ more _ e. absurd (other more (same bytes (label ++ more) e));
}

-- texts of digits, and their numbers
pub own : IsNumeralModel (λ digits. list_all is_digit digits ≡ true) (spelled_after 0)
own = numerals_by_fold _ (search rules) spelled_after (search rules)

-- the digits at the front of a number's text are all of it
pub digits_front : (digits rest : List ℕ) → list_all is_digit digits ≡ true → EndsNumber rest
    → prefix_len is_digit (digits ++ rest) ≡ length digits
digits_front [] [] all stop = refl
digits_front [] (b ∷ rest) all stop = rw stop refl
digits_front (d ∷ digits) rest all stop =
    let parts = and_parts (is_digit d) (list_all is_digit digits) all in
    let front = digits_front digits rest parts.1 stop in
    rw (parts.0, front) (omega arith)

digits_all : (bytes : List ℕ) → list_all is_digit (take (prefix_len is_digit bytes) bytes) ≡ true
digits_all [] = refl
digits_all (b ∷ bytes) = at (is_digit b) refl (digits_all bytes)
  where
    at : (t : Bool) → is_digit b ≡ t → list_all is_digit (take (prefix_len is_digit bytes) bytes) ≡ true
        → list_all is_digit (take (cond t (1 + prefix_len is_digit bytes) 0) (b ∷ bytes)) ≡ true
    at false is all = refl
    at true is all =
        let one : 1 + prefix_len is_digit bytes ≡ suc (prefix_len is_digit bytes) = omega arith in
        ap (λ n. list_all is_digit (take n (b ∷ bytes))) one ∙ rw (is, all) refl

-- the text of a number is what such digits look like
numeral : (n : ℕ) → n < 10_000_000_000_000_000 → IsNumeral (decimal n)
numeral zero small = let one = decimal_digit 0 (omega arith) in rw one (omega arith, omega arith, λ e. refl)
numeral (suc n) small = (
  decimal_nonempty (suc n) (omega arith),
  length-decimal-le 16 (suc n) (omega arith) small (omega arith),
  λ zero_first. absurd (omega (arith, zero_first, first_decimal (suc n) (omega arith) (omega arith))),
)

-- the digits at the front, and what follows them
abbrev pub digits_of : List ℕ → List ℕ
digits_of bytes = take (prefix_len is_digit bytes) bytes

abbrev pub behind : List ℕ → List ℕ
behind bytes = drop (prefix_len is_digit bytes) bytes

-- where a number stands at the front they are its text
front : (bytes rest : List ℕ) (n : ℕ) → n < 10_000_000_000_000_000 → EndsNumber rest → bytes ≡ decimal n ++ rest
    → (digits_of bytes ≡ decimal n) × (behind bytes ≡ rest)
front bytes rest n small stop is =
    let count : prefix_len is_digit bytes ≡ length (decimal n) =
    ap (prefix_len is_digit) is ∙ digits_front (decimal n) rest (digits_decimal own n (omega arith)) stop in (
      rw (count, is) (take_at (decimal n) rest (length (decimal n)) refl),
      rw (count, is) (drop_at (decimal n) rest (length (decimal n)) refl),
    )

-- a number is read where its digits stand
pub number-some : (bytes : List ℕ) (fine : Bool) → IsNumeral (digits_of bytes)
    → spelled (digits_of bytes) < 10_000_000_000_000_000
    → Reads decimal (λ n. n < 10_000_000_000_000_000) EndsNumber (left_of fine bytes) (spelled (digits_of bytes))
    (left_of fine (behind bytes))
number-some bytes false is small = record {
  sound = λ rest e. absurd cc;
  finds = λ other rest fits stop e. absurd cc;
}
number-some bytes true is small = record {
  sound = λ rest e.
      let text = decimal-digits_value own (digits_of bytes) (digits_all bytes) is.0 is.2 (omega arith) in
      let all = take-append-drop (prefix_len is_digit bytes) bytes in
      ap Some (sym all ∙ ap (λ digits. digits ++ behind bytes) (sym text)
      ∙ ap (λ more. decimal (spelled (digits_of bytes)) ++ more) (same (behind bytes) rest e));
  finds = λ other rest fits stop e.
      let at = front bytes rest other fits stop (same bytes (decimal other ++ rest) e) in (
        sym (digits_value-decimal own other (omega arith)) ∙ ap spelled (sym at.0),
        ap Some at.1,
      );
}

-- and no number stands where they do not
pub number-none : (bytes : List ℕ) (fine : Bool) (value : ℕ) → (IsNumeral (digits_of bytes) → ⊥)
    → Reads decimal (λ n. n < 10_000_000_000_000_000) EndsNumber (left_of fine bytes) value None
number-none bytes false value other = record {
  sound = λ rest e. absurd cc;
  finds = λ n rest fits stop e. absurd cc;
}
number-none bytes true value other = record {
  sound = λ rest e. absurd cc;
  finds = λ n rest fits stop e.
      let at = front bytes rest n fits stop (same bytes (decimal n ++ rest) e) in
      absurd (other (rw at.0 (numeral n fits)));
}
