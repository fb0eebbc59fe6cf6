-- How a space cuts off the first word.
use Rattle.std.proofs.Common.{◌≡◌, ℕ, ◌+◌, ◌<◌, ◌≤◌, suc, Bool, true, false, cond, not, List, [], ◌∷◌, ◌++◌, get_or, length, take, drop, count_by, refl, sym, subst, eqb-true, arith}
use Rattle.std.specs.List.{position_or_len, onto_first}
use Rattle.std.proofs.lemmas.Bool.{false≢true}
use Rattle.std.proofs.lemmas.List.Sums.{sum_by-cons, split_at_first, passes_at_first}
use Rattle.tbl_text.specs.Values.{is_space, words_of}

-- the first word ends at a place where a space stands
pub record IsWordEnd (bytes : List ℕ) (at : ℕ) : Type 0 where
  pub below : at < length bytes
  pub cut : bytes ≡ take at bytes ++ 32 ∷ drop (at + 1) bytes
  pub words : words_of bytes ≡ take at bytes ∷ words_of (drop (at + 1) bytes)
  pub spaces : count_by is_space bytes ≡ 1 + count_by is_space (drop (at + 1) bytes)

-- one byte more in front, of which it is known whether it is a space
words-cond : (t : Bool) (b at : ℕ) (bytes : List ℕ)
    → (t ≡ false → words_of bytes ≡ take at bytes ∷ words_of (drop (at + 1) bytes))
    → let end = cond (not t) (1 + at) 0 in
    cond t ([] ∷ words_of bytes) (onto_first b (words_of bytes))
    ≡ take end (b ∷ bytes) ∷ words_of (drop (end + 1) (b ∷ bytes))
words-cond true b at bytes known = refl
words-cond false b at bytes known =
    let one : 1 + at ≡ suc at = omega arith in
    let two : 1 + at + 1 ≡ suc (at + 1) = omega arith in
    rw (known refl, two, one) refl

spaces-cond : (t : Bool) (b at others : ℕ) (bytes : List ℕ) → others ≡ count_by is_space bytes
    → (t ≡ false → count_by is_space bytes ≡ 1 + count_by is_space (drop (at + 1) bytes))
    → let end = cond (not t) (1 + at) 0 in
    cond t 1 0 + others ≡ 1 + count_by is_space (drop (end + 1) (b ∷ bytes))
spaces-cond true b at others bytes is known = omega (arith, is)
spaces-cond false b at others bytes is known =
    let two : 1 + at + 1 ≡ suc (at + 1) = omega arith in
    rw two (omega (arith, is, known refl))

below-cond : (t : Bool) (at len : ℕ) → (t ≡ false → at < len) → cond (not t) (1 + at) 0 < suc len
below-cond true at len known = omega arith
below-cond false at len known = omega (arith, known refl)

some-cond : (t : Bool) (n : ℕ) → 1 ≤ cond t 1 0 + n → t ≡ false → 1 ≤ n
some-cond true n some is = absurd (false≢true (sym is))
some-cond false n some is = omega (arith, some)

-- where there is a space, the first word ends at the first of them
pub first-word_end : (bytes : List ℕ) → 1 ≤ count_by is_space bytes
    → IsWordEnd bytes (position_or_len is_space bytes)
first-word_end [] some = absurd (omega (arith, some))
first-word_end (b ∷ bytes) some =
    let count = sum_by-cons (λ x. cond (is_space x) 1 0) b bytes in
    let more : is_space b ≡ false → IsWordEnd bytes (position_or_len is_space bytes) =
    λ other. first-word_end bytes (some-cond (is_space b) _ (rw count at some) other) in
    let at = position_or_len is_space (b ∷ bytes) in
    let below : at < length (b ∷ bytes) = below-cond (is_space b) _ (length bytes) (λ other. (more other).below) in
    let space : get_or (b ∷ bytes) at 0 ≡ 32 = eqb-true _ _ (passes_at_first is_space (b ∷ bytes) 0 below) in
    record {
      cut = subst (λ x. b ∷ bytes ≡ take at (b ∷ bytes) ++ x ∷ drop (at + 1) (b ∷ bytes)) space
          (split_at_first is_space (b ∷ bytes) 0 below);
      below = below-cond (is_space b) _ (length bytes) (λ other. (more other).below);
      words = words-cond (is_space b) b _ bytes (λ other. (more other).words);
      spaces = rw count (spaces-cond (is_space b) b _ _ bytes refl (λ other. (more other).spaces));
    }

alone-cond : (t : Bool) (b n : ℕ) (bytes : List ℕ) → cond t 1 0 + n ≡ 0
    → (n ≡ 0 → words_of bytes ≡ bytes ∷ [])
    → cond t ([] ∷ words_of bytes) (onto_first b (words_of bytes)) ≡ (b ∷ bytes) ∷ []
alone-cond true b n bytes none known = absurd (omega (arith, none))
alone-cond false b n bytes none known = rw (known (omega (arith, none))) refl

-- where there is no space, all is one word
pub words_of-one : (bytes : List ℕ) → count_by is_space bytes ≡ 0 → words_of bytes ≡ bytes ∷ []
words_of-one [] none = refl
words_of-one (b ∷ bytes) none =
    alone-cond (is_space b) b _ bytes (rw (sum_by-cons (λ x. cond (is_space x) 1 0) b bytes) at none)
    (words_of-one bytes)
