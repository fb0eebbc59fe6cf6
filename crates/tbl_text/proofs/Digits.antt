-- The digits at the front of a field.
use Rattle.std.proofs.Common.{◌≡◌, ℕ, ◌+◌, ◌-◌, ◌*◌, ◌^◌, ◌<◌, ◌≤◌, true, false, leb, List, [], ◌∷◌, ◌++◌, length, get_or, take, drop, None, Some, refl, sym, ap, ◌∙◌, inl, inr, arith}
use Rattle.std.specs.List.{AllPass, list_all, prefix_len}
use Rattle.std.proofs.lemmas.Bool.{cases_Bool, and_parts, leb-true, le-leb}
use Rattle.std.proofs.lemmas.List.{get_or-take, length-take, length-drop, take_more}
use Rattle.std.proofs.lemmas.Nat.{pow-add}
use Rattle.std.proofs.lemmas.List.Folds.{length-prefix_len}
use Rattle.std.proofs.lemmas.List.Sums.{prefix_len_is, prefix_len_passes, take_while-cons, list_all-from_AllPass}
use Rattle.tbl_text.specs.Field.{is_digit, spelled_after, spelled, leading_digits, after_digits, IsFrontInteger, integer_value}

-- the front is digits
pub AllPass-leading_digits : (bytes : List ℕ) → AllPass is_digit (leading_digits bytes)
AllPass-leading_digits bytes k d below =
    let within : k < prefix_len is_digit bytes = omega (arith, length-prefix_len is_digit bytes) in
    rw (get_or-take (prefix_len is_digit bytes) bytes k d within) (prefix_len_passes is_digit bytes k d within)

-- a list of digits is its own front
leading_digits-digits : (bytes : List ℕ) → list_all is_digit bytes ≡ true → leading_digits bytes ≡ bytes
leading_digits-digits [] digits = refl
leading_digits-digits (b ∷ bytes) digits =
    let parts = and_parts (is_digit b) (list_all is_digit bytes) digits in
    take_while-cons is_digit b bytes ∙ rw (parts.0, leading_digits-digits bytes parts.1) refl

-- one to ten digits are an integer
integer_value-digits : (digits : List ℕ) → AllPass is_digit digits → 1 ≤ length digits → length digits ≤ 10
    → integer_value digits ≡ Some (spelled digits)
integer_value-digits digits all low high =
    rw (list_all-from_AllPass is_digit digits all, le-leb 1 (length digits) low, le-leb (length digits) 10 high) refl

-- the digits at the front, where they are an integer, and what follows them
pub front_read : (bytes digits rest : List ℕ) (n number : ℕ) → n ≡ prefix_len is_digit bytes
    → digits ≡ take n bytes → rest ≡ drop n bytes → 1 ≤ length digits → length digits ≤ 10 → number ≡ spelled digits
    → IsFrontInteger bytes rest number
front_read bytes digits rest n number count front back low high value =
    let is : digits ≡ leading_digits bytes = front ∙ ap (λ k. take k bytes) count in
    let all : AllPass is_digit digits = rw is (AllPass-leading_digits bytes) in
    record {
      value = rw (← is) (integer_value-digits digits all low high ∙ ap Some (sym value));
      behind = back ∙ ap (λ k. drop k bytes) (count ∙ sym (length-prefix_len is_digit bytes));
    }

-- no integer at the front: the field is none
pub integer_value-leading_none : (field : List ℕ) → integer_value (leading_digits field) ≡ None
    → integer_value field ≡ None
integer_value-leading_none field none =
    elim (cases_Bool (list_all is_digit field)) [
      | inl digits ↦ rw (leading_digits-digits field digits) at none
      | inr odd ↦ rw odd refl
    ]

-- more than digits: the field is none
pub integer_value-more : (field : List ℕ) → 1 ≤ length (after_digits field) → integer_value field ≡ None
integer_value-more field more =
    elim (cases_Bool (list_all is_digit field)) [
      | inl digits ↦
          let len = length (leading_digits field) in
          absurd (omega (arith, length-drop len field, ap length (leading_digits-digits field digits)))
      | inr odd ↦ rw odd refl
    ]

-- ---- one digit after another

-- one digit behind others
spelled_after-append : (n : ℕ) (digits : List ℕ) (b : ℕ)
    → spelled_after n (digits ++ b ∷ []) ≡ spelled_after n digits * 10 + (b - 48)
spelled_after-append n [] b = refl
spelled_after-append n (d ∷ digits) b = spelled_after-append (n * 10 + (d - 48)) digits b

-- one digit more
pub spelled_more : (bytes : List ℕ) (at : ℕ) → at < length bytes
    → spelled (take (at + 1) bytes) ≡ spelled (take at bytes) * 10 + (get_or bytes at 0 - 48)
spelled_more bytes at within =
    ap spelled (take_more bytes at 0 within) ∙ spelled_after-append 0 (take at bytes) (get_or bytes at 0)

-- a digit's value
pub digit_value : (b : ℕ) → is_digit b ≡ true → b - 48 ≤ 9
digit_value b digit = omega (arith, leb-true b 57 (and_parts (leb 48 b) (leb b 57) digit).1)

-- and they spell a number of one digit more
pub spelled_fits : (number digit at : ℕ) → number < 10 ^ at → digit ≤ 9 → number * 10 + digit < 10 ^ (at + 1)
spelled_fits number digit at fits is_digit = omega (arith, pow-add 10 at 1)

-- digits up to a place where none stands are those at the front
pub front_digits : (bytes rest : List ℕ) (at number : ℕ) → rest ≡ drop at bytes → at < length bytes
    → ((k : ℕ) → k < at → is_digit (get_or bytes k 0) ≡ true) → is_digit (get_or bytes at 0) ≡ false
    → 1 ≤ at → at ≤ 10 → number ≡ spelled (take at bytes) → IsFrontInteger bytes rest number
front_digits bytes rest at number back within before stops low high value =
    let len : length (take at bytes) ≡ at = omega (arith, length-take at bytes) in
    let count : at ≡ prefix_len is_digit bytes =
    sym (prefix_len_is is_digit bytes at 0 (omega arith) before (λ _. stops)) in
    front_read bytes (take at bytes) rest at number count refl back (omega arith) (omega arith) value
