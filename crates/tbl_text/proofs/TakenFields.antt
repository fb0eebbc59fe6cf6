-- What is taken off the front of a line is a field with its value.
use Rattle.std.proofs.Common.{◌≡◌, ℕ, ◌+◌, ◌*◌, Bool, true, false, cond, not, ◌&&◌, eqb, leb, List, [], ◌∷◌, ◌++◌, length, get_or, take, drop, Option, None, Some, refl, sym, ap, ◌∙◌, append_assoc, ◌⊎◌, inl, inr, arith}
use Rattle.std.specs.Prelude.{IfSome}
use Rattle.std.specs.List.{AllPass, list_all, prefix_len}
use Rattle.std.proofs.lemmas.Bool.{and_parts, and_from, not-true, leb-true, le-leb, ne_eqb, eqb-true}
use Rattle.std.proofs.lemmas.List.{append-nil, drop_at, take-append-drop}
use Rattle.std.proofs.lemmas.List.Elements.{All-cons, All-head, All-tail, All-append}
use Rattle.std.proofs.lemmas.List.Folds.{length-prefix_len}
use Rattle.std.proofs.lemmas.List.Sums.{take_while-cons, AllPass-from_list_all, list_all-from_AllPass}
use Rattle.tbl_text.specs.Field.{is_digit, IsPair, leading_digits, after_digits, IsFrontInteger, integer_value, hundredths_value, money_value, is_no_decimals, quantity_value, date_value, is_text_byte, is_text}
use Rattle.tbl_text.specs.LineCursor.{is_field_byte, Takes}
use Rattle.tbl_text.specs.Lines.{is_bar}
use Rattle.tbl_text.proofs.Bars.{IsFree}
use Rattle.tbl_text.proofs.Digits.{AllPass-leading_digits}

-- these bytes may stand in a field
abbrev pub IsClean : List ℕ → Type 0
IsClean bytes = AllPass is_field_byte bytes

-- a field's bytes are text
pub clean_text : (field : List ℕ) → IsClean field → AllPass is_text_byte field
clean_text field clean k d below = (and_parts (is_text_byte (get_or field k d)) _ (clean k d below)).0

-- and no bars
pub clean_free : (field : List ℕ) → IsClean field → IsFree 124 field
clean_free field clean k d below = not-true _ (and_parts (is_text_byte (get_or field k d)) _ (clean k d below)).1

-- text that is no bar may stand in a field
field_byte : (b : ℕ) → is_text_byte b ≡ true → is_bar b ≡ false → is_field_byte b ≡ true
field_byte b text no_bar = and_from (is_text_byte b) (not (is_bar b)) text (rw no_bar refl)

-- bytes that are given one by one
clean_bytes : (field : List ℕ) → list_all is_field_byte field ≡ true → IsClean field
clean_bytes field all = AllPass-from_list_all is_field_byte field all

takes_field : {A : Type 0} (read : List ℕ → A) (old field new : List ℕ) (value : A) → old ≡ field ++ 124 ∷ new
    → IsClean field → read field ≡ value → Takes read old new value
takes_field read old field new value cut clean reads =
    record { field = field; cut = cut; clean = clean; reads = reads }

-- ---- digits

-- a digit is no bar
digit_no_bar : (b : ℕ) → is_digit b ≡ true → is_bar b ≡ false
digit_no_bar b digit =
    let high = leb-true b 57 (and_parts (leb 48 b) (leb b 57) digit).1 in
    ne_eqb b 124 (λ bar. absurd (omega arith))

-- a digit is text
digit_text : (b : ℕ) → is_digit b ≡ true → is_text_byte b ≡ true
digit_text b digit =
    let parts = and_parts (leb 48 b) (leb b 57) digit in
    let low = leb-true 48 b parts.0 in
    let high = leb-true b 57 parts.1 in
    and_from (leb 32 b) (leb b 126) (le-leb 32 b (omega arith)) (le-leb b 126 (omega arith))

-- a digit may stand in a field
digit_field : (b : ℕ) → is_digit b ≡ true → is_field_byte b ≡ true
digit_field b digit = field_byte b (digit_text b digit) (digit_no_bar b digit)

digits_clean : (digits : List ℕ) → AllPass is_digit digits → IsClean digits
digits_clean digits all k d below = digit_field (get_or digits k d) (all k d below)

-- the same, where a test says that they are digits
numerals_clean : (digits : List ℕ) → list_all is_digit digits ≡ true → IsClean digits
numerals_clean digits all = digits_clean digits (AllPass-from_list_all is_digit digits all)

-- digits are text
pub takes_digits : (old field new : List ℕ) (count : ℕ) → count ≡ prefix_len is_digit old → field ≡ take count old
    → old ≡ field ++ 124 ∷ new → Takes is_text old new true
takes_digits old field new count many front cut =
    let is : field ≡ leading_digits old = front ∙ ap (λ n. take n old) many in
    let all : AllPass is_digit field = rw is (AllPass-leading_digits old) in
    let text = list_all-from_AllPass is_text_byte field (λ k d below. digit_text (get_or field k d) (all k d below)) in
    takes_field is_text old field new true cut (digits_clean field all) text

-- ---- numbers

-- the digits at the front and what follows them are all
leading-after : (bytes : List ℕ) → bytes ≡ leading_digits bytes ++ after_digits bytes
leading-after bytes =
    sym (take-append-drop (prefix_len is_digit bytes) bytes)
    ∙ ap (λ n. leading_digits bytes ++ drop n bytes) (sym (length-prefix_len is_digit bytes))

-- digits, where no digit follows them, are the digits at the front
leading_digits-append : (digits others : List ℕ) → AllPass is_digit digits → leading_digits others ≡ []
    → leading_digits (digits ++ others) ≡ digits
leading_digits-append [] others all stop = stop
leading_digits-append (d ∷ digits) others all stop =
    let first = All-head (λ b. is_digit b ≡ true) d digits all in
    let rest = All-tail (λ b. is_digit b ≡ true) d digits all in
    take_while-cons is_digit d (digits ++ others) ∙ rw (first, leading_digits-append digits others rest stop) refl

-- the digits at the front, with other bytes behind them, stay those at the front
leading-decimals : (bytes decimals : List ℕ) → leading_digits decimals ≡ []
    → leading_digits (leading_digits bytes ++ decimals) ≡ leading_digits bytes
leading-decimals bytes decimals stop =
    leading_digits-append (leading_digits bytes) decimals (AllPass-leading_digits bytes) stop

-- and the other bytes are what follows them
after-decimals : (bytes decimals : List ℕ) → leading_digits decimals ≡ []
    → after_digits (leading_digits bytes ++ decimals) ≡ decimals
after-decimals bytes decimals stop =
    let digits = leading_digits bytes in
    ap (λ front. drop (length front) (digits ++ decimals)) (leading-decimals bytes decimals stop)
    ∙ drop_at digits decimals (length digits) refl

-- digits at the front and what decimals follow them
takes_number : {A : Type 0} (read : List ℕ → A) (old rest decimals new : List ℕ) (value : A)
    → rest ≡ after_digits old → rest ≡ decimals ++ 124 ∷ new → IsClean decimals
    → read (leading_digits old ++ decimals) ≡ value → Takes read old new value
takes_number read old rest decimals new value behind cut clean reads =
    let digits = leading_digits old in
    let whole : old ≡ (digits ++ decimals) ++ 124 ∷ new =
    leading-after old
    ∙ ap (λ r. digits ++ r) (sym behind ∙ cut)
    ∙ sym (append_assoc digits decimals (124 ∷ new)) in
    let all = digits_clean digits (AllPass-leading_digits old) in
    takes_field read old (digits ++ decimals) new value whole
    (All-append (λ b. is_field_byte b ≡ true) digits decimals all clean) reads

-- with nothing behind the digits
pub takes_integer : (old rest new : List ℕ) (n : ℕ) → IsFrontInteger old rest n → rest ≡ 124 ∷ new
    → Takes integer_value old new (Some n)
takes_integer old rest new n front cut =
    let reads = ap integer_value (append-nil (leading_digits old)) ∙ front.value in
    takes_number integer_value old rest [] new (Some n) front.behind cut (clean_bytes [] refl) reads

-- with decimals that say nothing
takes_zeros : (old rest decimals new : List ℕ) (n : ℕ) → IsFrontInteger old rest n → rest ≡ decimals ++ 124 ∷ new
    → IsClean decimals → leading_digits decimals ≡ [] → is_no_decimals decimals ≡ true
    → Takes quantity_value old new (Some n)
takes_zeros old rest decimals new n front cut clean stop none =
    let reads : quantity_value (leading_digits old ++ decimals) ≡ Some n =
    rw (after-decimals old decimals stop, leading-decimals old decimals stop, none) front.value in
    takes_number quantity_value old rest decimals new (Some n) front.behind cut clean reads

-- with nothing, or with .00
pub takes_quantity : (old rest after new : List ℕ) (n : ℕ) → IsFrontInteger old rest n
    → (rest ≡ after) ⊎ (rest ≡ 46 ∷ 48 ∷ 48 ∷ after) → after ≡ 124 ∷ new → Takes quantity_value old new (Some n)
takes_quantity old rest after new n front (inl none) cut =
    takes_zeros old rest [] new n front (none ∙ cut) (clean_bytes [] refl) refl refl
takes_quantity old rest after new n front (inr zeros) cut =
    let decimals = 46 ∷ 48 ∷ 48 ∷ [] in
    let behind = zeros ∙ ap (λ r. 46 ∷ 48 ∷ 48 ∷ r) cut in
    takes_zeros old rest decimals new n front behind (clean_bytes decimals refl) refl refl

-- a point and two digits
hundredths_value-pair : (tens ones n : ℕ) → IsPair tens ones n → hundredths_value (46 ∷ tens ∷ ones ∷ []) ≡ Some n
hundredths_value-pair tens ones n pair = rw (pair.tens_digit, pair.ones_digit, pair.value) refl

-- with two decimals
pub takes_money : (old rest after new : List ℕ) (n tens ones hundredths : ℕ) → IsFrontInteger old rest n
    → rest ≡ 46 ∷ tens ∷ ones ∷ after → IsPair tens ones hundredths → after ≡ 124 ∷ new
    → Takes money_value old new (Some (n * 100 + hundredths))
takes_money old rest after new n tens ones hundredths front behind pair cut =
    let decimals = 46 ∷ tens ∷ ones ∷ [] in
    let clean : IsClean decimals =
    clean_bytes decimals (rw (digit_field tens pair.tens_digit, digit_field ones pair.ones_digit) refl) in
    let reads : money_value (leading_digits old ++ decimals) ≡ Some (n * 100 + hundredths) =
    rw (
      after-decimals old decimals refl,
      leading-decimals old decimals refl,
      front.value,
      hundredths_value-pair tens ones hundredths pair,
    )
    refl in
    takes_number money_value old rest decimals new (Some (n * 100 + hundredths)) front.behind
    (behind ∙ ap (λ r. 46 ∷ tens ∷ ones ∷ r) cut) clean reads

-- below one, with one digit and two decimals
pub takes_hundredths : (old new : List ℕ) (tens ones n : ℕ) → old ≡ 48 ∷ 46 ∷ tens ∷ ones ∷ 124 ∷ new
    → IsPair tens ones n → Takes money_value old new (Some n)
takes_hundredths old new tens ones n cut pair =
    let field = 48 ∷ 46 ∷ tens ∷ ones ∷ [] in
    let clean : IsClean field =
    clean_bytes field (rw (digit_field tens pair.tens_digit, digit_field ones pair.ones_digit) refl) in
    let reads : money_value field ≡ Some n =
    rw (pair.tens_digit, pair.ones_digit) (ap Some (omega (arith, pair.value))) in
    takes_field money_value old field new (Some n) cut clean reads

-- ---- dates

-- a chosen value is there only where the test holds
when_some : (t : Bool) (o : Option ℕ) (n : ℕ) → cond t o None ≡ Some n → t ≡ true
when_some true o n is = refl
when_some false o n is = absurd cc

-- a byte that a test finds may stand in a field, where the byte that it looks for may
same_clean : (b c : ℕ) → eqb b c ≡ true → is_field_byte c ≡ true → is_field_byte b ≡ true
same_clean b c same clean = rw (eqb-true b c same) clean

-- a date is digits and hyphens
date_clean : (field : List ℕ) (day : ℕ) → date_value field ≡ Some day → IsClean field
date_clean (a ∷ b ∷ c ∷ d ∷ hyphen ∷ e ∷ f ∷ dash ∷ g ∷ h ∷ []) day is =
    let year = a ∷ b ∷ c ∷ d ∷ [] in
    let month = e ∷ f ∷ [] in
    let date = g ∷ h ∷ [] in
    let hyphens = eqb hyphen 45 && eqb dash 45 in
    let holds =
    when_some (((hyphens && list_all is_digit year) && list_all is_digit month) && list_all is_digit date) _ day is in
    let upto_month = and_parts _ _ holds in
    let upto_year = and_parts _ _ upto_month.0 in
    let upto_hyphens = and_parts _ _ upto_year.0 in
    let both = and_parts (eqb hyphen 45) (eqb dash 45) upto_hyphens.0 in
    let clean : ℕ → Type 0 = λ b. is_field_byte b ≡ true in
    All-append clean year (hyphen ∷ month ++ dash ∷ date) (numerals_clean year upto_hyphens.1)
    (All-cons clean hyphen (month ++ dash ∷ date) (same_clean hyphen 45 both.0 refl)
    (All-append clean month (dash ∷ date) (numerals_clean month upto_year.1)
    (All-cons clean dash date (same_clean dash 45 both.1 refl) (numerals_clean date upto_month.1))))
date_clean field day is = absurd cc

-- a date that was found
pub takes_date : (old field new : List ℕ) (found : Option ℕ) → old ≡ field ++ 124 ∷ new → found ≡ date_value field
    → IfSome found (λ day. Takes date_value old new (Some day))
takes_date old field new None cut is = tt
takes_date old field new (Some day) cut is =
    takes_field date_value old field new (Some day) cut (date_clean field day (sym is)) (sym is)
