-- How bars cut a line into fields.
use Rattle.std.proofs.Common.{◌≡◌, ℕ, ◌+◌, ◌<◌, ◌≤◌, Bool, true, false, cond, eqb, List, [], ◌∷◌, ◌++◌, length, get_or, take, drop, count_by, refl, sym, ap, subst, ◌∙◌, sub-one, arith}
use Rattle.std.specs.List.{All, position_or_len, before_first, after_first}
use Rattle.std.proofs.lemmas.Bool.{eq-eqb, ne_eqb, eqb-true}
use Rattle.std.proofs.lemmas.List.{nil_from_length, take_all, drop-drop, length-drop, length-take, get_or-take}
use Rattle.std.proofs.lemmas.List.Elements.{All-head, All-tail}
use Rattle.std.proofs.lemmas.List.Sums.{sum_by-cons, split_at_first, passes_at_first, fails_before_first}
use Rattle.tbl_text.specs.Fields.{IsCut}
use Rattle.tbl_text.specs.Lines.{is_bar, EndsInBar, onto_first, pieces, fields_of}

-- no byte is the separator
abbrev pub IsFree : ℕ → List ℕ → Type 0
IsFree separator bytes = All (λ b. eqb b separator ≡ false) bytes

-- not the first byte, and none of the others
IsFree-parts : (separator b : ℕ) (bytes : List ℕ) → IsFree separator (b ∷ bytes)
    → (eqb b separator ≡ false) × IsFree separator bytes
IsFree-parts separator b bytes free =
    let other : ℕ → Type 0 = λ x. eqb x separator ≡ false in
    (All-head other b bytes free, All-tail other b bytes free)

-- what stands before the first separator is the first piece
pub pieces-separator : (separator : ℕ) (front rest : List ℕ) → IsFree separator front
    → pieces separator (front ++ separator ∷ rest) ≡ front ∷ pieces separator rest
pieces-separator separator [] rest free = rw (eq-eqb separator separator refl) refl
pieces-separator separator (b ∷ front) rest free =
    let parts = IsFree-parts separator b front free in
    rw (parts.0, pieces-separator separator front rest parts.1) refl

-- before the first bar there is none
before_first-free : (bytes : List ℕ) → IsFree 124 (before_first is_bar bytes)
before_first-free bytes k d below =
    let len = position_or_len is_bar bytes in
    let within : k < len = omega (arith, length-take len bytes) in
    rw (get_or-take len bytes k d within) (fails_before_first is_bar bytes k d within)

-- bytes with no separator are one piece
pieces-free : (separator : ℕ) (bytes : List ℕ) → IsFree separator bytes → 0 < length bytes
    → pieces separator bytes ≡ bytes ∷ []
pieces-free separator [] free some = absurd (omega arith)
pieces-free separator (b ∷ []) free some = rw (IsFree-parts separator b [] free).0 refl
pieces-free separator (b ∷ c ∷ bytes) free some =
    let parts = IsFree-parts separator b (c ∷ bytes) free in
    rw (parts.0, pieces-free separator (c ∷ bytes) parts.1 (omega arith)) refl

-- the front up to the first bar, and what follows the bar
pub pieces-at_bar : (bytes front back : List ℕ) (at : ℕ) → at ≡ position_or_len is_bar bytes
    → front ≡ take at bytes → back ≡ drop at bytes → 1 ≤ length back
    → pieces 124 bytes ≡ front ∷ pieces 124 (drop 1 back)
pieces-at_bar bytes front back at place is_front is_back some =
    let first = position_or_len is_bar bytes in
    let before = before_first is_bar bytes in
    let after = after_first is_bar bytes in
    let within : first < length bytes = omega (arith, length-drop at bytes, ap length is_back) in
    let bar : get_or bytes first 0 ≡ 124 = eqb-true _ _ (passes_at_first is_bar bytes 0 within) in
    let cut : bytes ≡ before ++ 124 ∷ after =
    split_at_first is_bar bytes 0 within ∙ ap (λ b. before ++ b ∷ after) bar in
    let rest : drop 1 back ≡ after = rw (is_back, place) (drop-drop 1 first bytes) in
    ap (pieces 124) cut ∙ pieces-separator 124 before after (before_first-free bytes) ∙ rw (is_front, place, rest) refl

-- with no bar all is one field
pub pieces-no_bar : (bytes front back : List ℕ) (at : ℕ) → at ≡ position_or_len is_bar bytes
    → front ≡ take at bytes → back ≡ drop at bytes → length back < 1 → 0 < length bytes
    → pieces 124 bytes ≡ front ∷ pieces 124 back
pieces-no_bar bytes front back at place is_front is_back none some =
    let all : front ≡ bytes = is_front ∙ take_all at bytes (omega (arith, length-drop at bytes, ap length is_back)) in
    let free : IsFree 124 bytes = subst (IsFree 124) (sym is_front ∙ all) (rw place (before_first-free bytes)) in
    let nothing : back ≡ [] = nil_from_length back (omega arith) in
    pieces-free 124 bytes free some ∙ rw (all, nothing) refl

-- ---- how many

-- a byte onto the first piece makes no new piece
length-onto_first : (b : ℕ) (parts : List (List ℕ)) → 0 < length parts → length (onto_first b parts) ≡ length parts
length-onto_first b [] some = absurd (omega arith)
length-onto_first b (part ∷ parts) some = refl

-- there is a piece then
onto_first-some : (b : ℕ) (parts : List (List ℕ)) → 0 < length (onto_first b parts)
onto_first-some b [] = omega arith
onto_first-some b (part ∷ parts) = omega arith

-- there is a piece of some bytes
some-cond : (t : Bool) (b : ℕ) (parts : List (List ℕ)) → 0 < length (cond t ([] ∷ parts) (onto_first b parts))
some-cond true b parts = omega arith
some-cond false b parts = onto_first-some b parts

-- one more byte: one more piece at a separator
length-cond : (t : Bool) (b : ℕ) (parts : List (List ℕ)) (bars others last : ℕ) → 0 < length parts
    → length parts ≡ others + last → bars ≡ cond t 1 0 + others
    → length (cond t ([] ∷ parts) (onto_first b parts)) ≡ bars + last
length-cond true b parts bars others last some is more = omega arith
length-cond false b parts bars others last some is more = omega (arith, length-onto_first b parts some)

-- the pieces of one byte
length-one : (t : Bool) (b : ℕ) → length (cond t ([] ∷ []) ((b ∷ []) ∷ [])) ≡ 0 + cond t 1 0 + cond t 0 1
length-one true b = refl
length-one false b = refl

-- as many as bars, and one more where the last byte is none
length-pieces : (b : ℕ) (bytes : List ℕ) → length (pieces 124 (b ∷ bytes))
    ≡ count_by is_bar (b ∷ bytes) + cond (is_bar (get_or (b ∷ bytes) (length bytes) 0)) 0 1
length-pieces b [] = length-one (is_bar b) b
length-pieces b (c ∷ bytes) =
    length-cond (is_bar b) b (pieces 124 (c ∷ bytes)) _ _ _ (some-cond (is_bar c) c (pieces 124 bytes))
    (length-pieces c bytes) (sum_by-cons (λ x. cond (is_bar x) 1 0) b (c ∷ bytes))

-- where a bar ends the line, there are as many fields as bars
pub length-fields_of-ended : (line : List ℕ) → EndsInBar line → count_by is_bar line ≡ length (fields_of line)
length-fields_of-ended [] ended = absurd (omega (arith, ended.0))
length-fields_of-ended (b ∷ bytes) ended =
    let last : is_bar (get_or (b ∷ bytes) (length bytes) 0) ≡ true = eq-eqb _ _ (rw sub-one at ended.1) in
    omega (arith, rw last at (length-pieces b bytes))

-- where none ends it, there is one field more
pub length-fields_of-open : (line : List ℕ) → ¬ EndsInBar line → count_by is_bar line + 1 ≡ length (fields_of line)
length-fields_of-open [] open' = refl
length-fields_of-open (b ∷ bytes) open' =
    let last : is_bar (get_or (b ∷ bytes) (length bytes) 0) ≡ false =
    ne_eqb _ _ (λ bar. open' (omega arith, rw sub-one bar)) in
    omega (arith, rw last at (length-pieces b bytes))

-- ---- one after another

-- these fields were cut off the bytes, one after another
pub data Reads : List ℕ → List (List ℕ) → Type 0 where
  nothing : {bytes : List ℕ} → Reads bytes []
  cons : {bytes field rest : List ℕ} {fields : List (List ℕ)} → IsCut bytes field rest → Reads rest fields
      → Reads bytes (field ∷ fields)

-- one field more
infixr 20 ◌⨾◌
pub ◌⨾◌ : {bytes field rest : List ℕ} {fields : List (List ℕ)} → IsCut bytes field rest → Reads rest fields
    → Reads bytes (field ∷ fields)
cut ⨾ reads = cons cut reads

-- as many fields as there are pieces are the pieces
pieces-read : {bytes : List ℕ} {fields : List (List ℕ)} → Reads bytes fields
    → length (pieces 124 bytes) ≡ length fields → pieces 124 bytes ≡ fields
pieces-read {bytes = bytes} nothing len = nil_from_length (pieces 124 bytes) len
pieces-read {bytes = []} (cons cut reads) len = absurd (omega arith)
pieces-read {bytes = b ∷ bytes} (cons {field = field} {rest = rest} cut reads) len =
    let first : pieces 124 (b ∷ bytes) ≡ field ∷ pieces 124 rest = cut.first (omega arith) in
    first ∙ ap (λ fields. field ∷ fields) (pieces-read reads (omega (arith, ap length first)))

-- as many fields as the line has, and more than one, are its fields
pub fields_of-read : (line : List ℕ) (fields : List (List ℕ)) → Reads line fields → 1 < length fields
    → length (fields_of line) ≡ length fields → fields_of line ≡ fields
fields_of-read [] fields reads some len = absurd (omega arith)
fields_of-read (b ∷ line) fields reads some len = pieces-read reads len
