-- Groups from a place on, run by run.
use Rattle.std.proofs.Common.{◌≡◌, ℕ, ◌+◌, ◌-◌, ◌<◌, ◌≤◌, ◌∙◌, List, [], ◌∷◌, ◌++◌, length, get_or, drop, replicate, refl, sym, ap, arith}
use Rattle.std.proofs.lemmas.List.{drop-drop, drop_at, drop_all, drop_more, length-replicate, replicate-append-replicate, append_assoc}
use Rattle.std.proofs.Math.Seq.{drop-nil}
use Rattle.wah_words.specs.Word.{groups, run_group, run_count, word_groups}

-- the groups of a word and of those after it
pub groups-cons : (word : ℕ) (words : List ℕ)
    → groups (word ∷ words) ≡ replicate (run_count word) (run_group word) ++ groups words
unfolding word_groups
groups-cons word words = refl

-- the groups of the words from a word on begin with those of the word
pub groups-drop : (words : List ℕ) (i : ℕ) → i < length words
    → groups (drop i words) ≡ replicate (run_count (get_or words i 0)) (run_group (get_or words i 0))
    ++ groups (drop (i + 1) words)
groups-drop words i within = ap groups (drop_more words i 0 within)
    ∙ groups-cons (get_or words i 0) (drop (i + 1) words)

-- past the last word there are no groups
pub groups-drop_all : (words : List ℕ) (i n : ℕ) → length words ≤ i → drop n (groups (drop i words)) ≡ []
groups-drop_all words i n past = ap (λ rest. drop n (groups rest)) (drop_all i words past) ∙ drop-nil n

-- a whole run is dropped
pub drop_run : (n count g : ℕ) (rest : List ℕ) → count ≤ n → drop n (replicate count g ++ rest) ≡ drop (n - count) rest
drop_run n count g rest within =
    let parts : n ≡ count + (n - count) = omega arith in
    ap (λ k. drop k (replicate count g ++ rest)) parts
    ∙ sym (drop-drop (n - count) count (replicate count g ++ rest))
    ∙ ap (drop (n - count)) (drop_at (replicate count g) rest count (length-replicate count g))

-- a part of a run is dropped
pub drop_part : (n count g : ℕ) (rest : List ℕ) → n ≤ count
    → drop n (replicate count g ++ rest) ≡ replicate (count - n) g ++ rest
drop_part n count g rest within =
    let parts : count ≡ n + (count - n) = omega arith in
    ap (λ k. drop n (replicate k g ++ rest)) parts
    ∙ ap (λ run. drop n (run ++ rest)) (sym (replicate-append-replicate n (count - n) g))
    ∙ ap (drop n) (append_assoc (replicate n g) (replicate (count - n) g) rest)
    ∙ drop_at (replicate n g) (replicate (count - n) g ++ rest) n (length-replicate n g)
