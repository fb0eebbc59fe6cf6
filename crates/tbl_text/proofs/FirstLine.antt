-- The first line is the first piece, and what follows its LF has the other pieces.
use Rattle.std.proofs.Common.{◌≡◌, ◌≢◌, ℕ, ◌+◌, ◌-◌, ◌<◌, ◌≤◌, suc, Bool, true, false, cond, not, ◌==◌, List, [], ◌∷◌, ◌++◌, map, eqb, leb, length, get_or, take, drop, slice_index, Option, Some, None, unwrap_or, refl, sym, ap, ◌∙◌, append_assoc, inl, inr, arith}
use Rattle.std.proofs.Math.Seq.{take-append_seam, get_or-append_seam}
use Rattle.std.proofs.lemmas.Bool.{false_from_ne_true, and_parts, leb-true, ne_eqb}
use Rattle.std.proofs.lemmas.List.{drop_min, take_min, length-take, length-append, length-take-le, take-take}
use Rattle.std.proofs.lemmas.List.Elements.{All-nil, All-cons, All-append}
use Rattle.std.proofs.lemmas.List.Sums.{position_or_len_is, AllPass-from_list_all}
use Rattle.memchr.specs.Find.{IsFirstByte, is_byte}
use Rattle.tbl_text.specs.LineCursor.{IsEnd}
use Rattle.tbl_text.specs.Field.{is_text_byte, is_text}
use Rattle.tbl_text.proofs.Bars.{IsFree, pieces-separator}
use Rattle.tbl_text.specs.Lines.{pieces, onto_first, lines_of, line_end, line_len, next_line, without_cr}

-- the first LF, or else the number of bytes
pub line_end-first_byte : (bytes : List ℕ) (first : Option ℕ) → IsFirstByte (is_byte 10) bytes first
    → unwrap_or first (length bytes) ≡ line_end bytes
line_end-first_byte bytes None nowhere =
    let other : (k : ℕ) → k < length bytes → is_byte 10 (get_or bytes k 0) ≡ false =
    λ k below. false_from_ne_true _ (nowhere k (omega arith) below) in
    sym (position_or_len_is (is_byte 10) bytes (length bytes) 0 (omega arith) other (λ past. absurd (omega arith)))
line_end-first_byte bytes (Some k) first =
    let other : (j : ℕ) → j < k → is_byte 10 (get_or bytes j 0) ≡ false =
    λ j below. false_from_ne_true _ (first.0.before j (omega arith) below) in
    sym (position_or_len_is (is_byte 10) bytes k 0 (omega arith) other (λ within. first.1))

-- these pieces are the first, which ends at a place, and those behind it
abbrev Begin : List (List ℕ) → List ℕ → ℕ → Type 0
Begin parts bytes end = parts ≡ take end bytes ∷ pieces 10 (drop (end + 1) bytes)

-- a byte alone: it is a separator, or the first piece
pieces-alone : (b : ℕ) (is_separator : Bool)
    → Begin (cond is_separator ([] ∷ []) ((b ∷ []) ∷ [])) (b ∷ []) (cond (not is_separator) 1 0)
pieces-alone b true = refl
pieces-alone b false = refl

-- one byte more in front: it is a separator and ends an empty piece, or goes on the front of the first piece
pieces-onto : (b end : ℕ) (bytes : List ℕ) (is_separator : Bool) → Begin (pieces 10 bytes) bytes end
    → Begin (cond is_separator ([] ∷ pieces 10 bytes) (onto_first b (pieces 10 bytes))) (b ∷ bytes)
    (cond (not is_separator) (1 + end) 0)
pieces-onto b end bytes true known = refl
pieces-onto b end bytes false known =
    let one : 1 + end ≡ suc end = omega arith in
    let two : 1 + end + 1 ≡ suc (end + 1) = omega arith in
    rw (known, two, one) refl

-- the first piece ends at the first separator
pieces-first : (bytes : List ℕ) → bytes ≢ [] → Begin (pieces 10 bytes) bytes (line_end bytes)
pieces-first [] some = absurd (some refl)
pieces-first (b ∷ []) some = pieces-alone b (b == 10)
pieces-first (b ∷ c ∷ bytes) some =
    pieces-onto b (line_end (c ∷ bytes)) (c ∷ bytes) (b == 10) (pieces-first (c ∷ bytes) (λ none. cc))

-- a front of the bytes, with its last byte or without it, is a front of them
take-cond : (end : ℕ) (bytes : List ℕ) (has_cr : Bool) → let front = take end bytes in
    let line = cond has_cr (take (length front - 1) front) front in line ≡ take (length line) bytes
take-cond end bytes true =
    let len = length (take end bytes) - 1 in
    let within : len ≤ end = omega (arith, length-take end bytes) in
    rw (length-take-le len (take end bytes) (omega arith)) (take-take len end bytes within)
take-cond end bytes false = rw length-take (sym (take_min end bytes))

-- so a line is a front of the bytes
take-without_cr : (end : ℕ) (bytes : List ℕ)
    → without_cr (take end bytes) ≡ take (length (without_cr (take end bytes))) bytes
take-without_cr end bytes = take-cond end bytes (slice_index (take end bytes) (length (take end bytes) - 1) == 13)

-- the first line, and the lines behind it
pub lines_of-first : (bytes : List ℕ) → bytes ≢ []
    → lines_of bytes ≡ take (line_len bytes) bytes ∷ lines_of (drop (next_line bytes) bytes)
lines_of-first bytes some =
    let end = line_end bytes in
    rw (pieces-first bytes some, drop_min (end + 1) bytes)
    (ap (λ line. line ∷ lines_of (drop (end + 1) bytes)) (take-without_cr end bytes))

-- ---- a line of text

-- text has none of the bytes that end a line
text_free : (separator : ℕ) (line : List ℕ) → separator < 32 → is_text line ≡ true → IsFree separator line
text_free separator line low text k d below =
    let byte = AllPass-from_list_all is_text_byte line text k d below in
    let least = leb-true 32 (get_or line k d) (and_parts (leb 32 (get_or line k d)) _ byte).0 in
    ne_eqb (get_or line k d) separator (λ same. absurd (omega arith))

-- the last byte of text is no CR
without_cr-text : (line : List ℕ) → is_text line ≡ true → without_cr line ≡ line
without_cr-text [] text = refl
without_cr-text (b ∷ line) text =
    let free = text_free 13 (b ∷ line) (omega arith) text in
    let last : eqb (get_or (b ∷ line) (length (b ∷ line) - 1) 0) 13 ≡ false =
    free (length (b ∷ line) - 1) 0 (omega arith) in
    rw last refl

-- a CR at the end is no part of a line
without_cr-cr : (line : List ℕ) → without_cr (line ++ 13 ∷ []) ≡ line
without_cr-cr line =
    let len : length (line ++ 13 ∷ []) - 1 ≡ length line = omega (arith, length-append line (13 ∷ [])) in
    rw (len, get_or-append_seam line 13 [] 0) (take-append_seam line (13 ∷ []))

-- bytes with no LF up to an LF are the first line
lines_of-free : (bytes line rest : List ℕ) → bytes ≡ line ++ 10 ∷ rest → IsFree 10 line
    → lines_of bytes ≡ without_cr line ∷ lines_of rest
lines_of-free bytes line rest cut free =
    ap lines_of cut ∙ ap (map without_cr) (pieces-separator 10 line rest free)

-- text up to a line's end is the first line
pub lines_of-text : (bytes line back rest : List ℕ) → bytes ≡ line ++ back → is_text line ≡ true → IsEnd back rest
    → lines_of bytes ≡ line ∷ lines_of rest
lines_of-text bytes line back rest cut text (inl lf) =
    lines_of-free bytes line rest (cut ∙ ap (λ b. line ++ b) lf) (text_free 10 line (omega arith) text)
    ∙ ap (λ l. l ∷ lines_of rest) (without_cr-text line text)
lines_of-text bytes line back rest cut text (inr crlf) =
    let other : ℕ → Type 0 = λ b. eqb b 10 ≡ false in
    let free : IsFree 10 (line ++ 13 ∷ []) =
    All-append other line (13 ∷ []) (text_free 10 line (omega arith) text)
    (All-cons other 13 [] refl (All-nil other)) in
    let whole = cut ∙ ap (λ b. line ++ b) crlf ∙ sym (append_assoc line (13 ∷ []) (10 ∷ rest)) in
    lines_of-free bytes (line ++ 13 ∷ []) rest whole free ∙ ap (λ l. l ∷ lines_of rest) (without_cr-cr line)

-- and what follows it is shorter than all
pub end_shorter : (bytes line back rest : List ℕ) → bytes ≡ line ++ back → IsEnd back rest
    → length rest < length bytes
end_shorter bytes line back rest cut (inl lf) = omega (arith, ap length cut, length-append line back, ap length lf)
end_shorter bytes line back rest cut (inr crlf) =
    omega (arith, ap length cut, length-append line back, ap length crlf)
