-- The words of a line, by how many there are.
use Rattle.std.proofs.Common.{◌≡◌, ◌≢◌, ℕ, suc, ◌+◌, ◌<◌, ◌≤◌, List, [], ◌∷◌, length, drop, count_by, refl, ap, ne_eqb, eq-eqb, le-leb, Bool, true, false, ◌==◌, Ok, if◌then◌else◌, IsUtf8, arith}
use Rattle.std.specs.List.{join_with_byte}
use Rattle.std.specs.Str.{is_utf8}
use Rattle.std.proofs.lemmas.Bool.{false≢true, lt-leb}
use Rattle.std.proofs.lemmas.Str.{is_utf8-from_IsUtf8, IsUtf8-from_is_utf8}
use Rattle.std.proofs.lemmas.List.Splits.{length-slice_split, join_with_byte-slice_split}
use Rattle.tbl_text.specs.Values.{is_space, words_of}
use Rattle.refresh_streams.specs.ScriptLine.{malformed, numbered, row_value, row_of, key_of, order_of, or_bad_term, query_of, q6_of, merge_of, name_of}
use Rattle.refresh_streams.specs.Term.{predicate_of}

-- one more than spaces
pub length-words_of : (bytes : List ℕ) → length (words_of bytes) ≡ count_by is_space bytes + 1
length-words_of bytes = length-slice_split is_space bytes

only : (words : List (List ℕ)) (bytes : List ℕ) → join_with_byte 32 words ≡ bytes → length words ≡ 1
    → words ≡ bytes ∷ []
only [] bytes joined one = absurd (omega (arith, one))
only (word ∷ []) bytes joined one = ap (λ w. w ∷ []) joined
only (word ∷ next ∷ words) bytes joined one = absurd (omega (arith, one))

-- where there is no space, all is one word
pub words_of-one : (bytes : List ℕ) → count_by is_space bytes ≡ 0 → words_of bytes ≡ bytes ∷ []
words_of-one bytes none =
    only (words_of bytes) bytes (join_with_byte-slice_split 32 bytes) (omega (arith, none, length-words_of bytes))

-- nothing stands behind a word alone
pub behind-last : (line : List ℕ) → drop (length line + 1) line ≡ []
behind-last [] = refl
behind-last (b ∷ line) =
    let next : suc (length line) + 1 ≡ suc (length line + 1) = omega arith in
    rw next (behind-last line)

-- lines of the wrong number of words
pub row_of-wrong : (fields : List (List ℕ)) → length fields ≢ 9 → row_of fields ≡ malformed
row_of-wrong [] wrong = refl
row_of-wrong (order ∷ []) wrong = refl
row_of-wrong (order ∷ line ∷ values) wrong =
    rw (ne_eqb (length values) 7 (λ seven. wrong (omega (arith, seven)))) refl

pub row_of-right : (fields values : List (List ℕ)) (order line : List ℕ) → fields ≡ order ∷ line ∷ values
    → length values ≡ 7 → row_of fields ≡ numbered (row_value order line values)
row_of-right fields values order line is seven = rw (is, eq-eqb (length values) 7 seven) refl

pub key_of-wrong : (fields : List (List ℕ)) → length fields ≢ 2 → key_of fields ≡ malformed
key_of-wrong [] wrong = refl
key_of-wrong (order ∷ []) wrong = refl
key_of-wrong (order ∷ line ∷ []) wrong = absurd (wrong refl)
key_of-wrong (order ∷ line ∷ more ∷ fields) wrong = refl

pub order_of-wrong : (fields : List (List ℕ)) → length fields ≢ 1 → order_of fields ≡ malformed
order_of-wrong [] wrong = refl
order_of-wrong (order ∷ []) wrong = absurd (wrong refl)
order_of-wrong (order ∷ more ∷ fields) wrong = refl

pub q6_of-wrong : (fields : List (List ℕ)) → length fields ≢ 3 → q6_of fields ≡ malformed
q6_of-wrong [] wrong = refl
q6_of-wrong (year ∷ []) wrong = refl
q6_of-wrong (year ∷ disc ∷ []) wrong = refl
q6_of-wrong (year ∷ disc ∷ qty ∷ []) wrong = absurd (wrong refl)
q6_of-wrong (year ∷ disc ∷ qty ∷ more ∷ fields) wrong = refl

pub merge_of-some : (fields : List (List ℕ)) → 1 ≤ length fields → merge_of fields ≡ malformed
merge_of-some [] some = absurd (omega (arith, some))
merge_of-some (field ∷ fields) some = refl

-- five terms at most
pub query_of-many : (terms : List (List ℕ)) → 5 < length terms → query_of terms ≡ malformed
query_of-many terms many = rw (lt-leb (length terms) 5 many) refl

pub query_of-few : (terms : List (List ℕ)) → length terms ≤ 5 → query_of terms ≡ or_bad_term (predicate_of terms)
query_of-few terms few = rw (le-leb (length terms) 5 few) refl

-- names
name-cond : (t : Bool) (bytes : List ℕ) → ¬ (t ≡ true) → (if t then Ok bytes else malformed {A = List ℕ}) ≡ malformed
name-cond true bytes never = absurd (never refl)
name-cond false bytes never = refl

pub name_of-text : (bytes : List ℕ) → false ≡ (length bytes == 0) → IsUtf8 bytes → name_of bytes ≡ Ok bytes
name_of-text [] some is = absurd (false≢true some)
name_of-text (b ∷ bytes) some is = rw (is_utf8-from_IsUtf8 (b ∷ bytes) is) refl

pub name_of-other : (bytes : List ℕ) → false ≡ (length bytes == 0) → ¬ IsUtf8 bytes → name_of bytes ≡ malformed
name_of-other [] some other = absurd (false≢true some)
name_of-other (b ∷ bytes) some other =
    name-cond (is_utf8 (b ∷ bytes)) (b ∷ bytes) (λ yes. other (IsUtf8-from_is_utf8 (b ∷ bytes) yes))
