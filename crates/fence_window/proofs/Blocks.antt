-- Groups of words, part by part.
use Rattle.std.proofs.Common.{◌≡◌, ℕ, zero, suc, ◌+◌, ◌-◌, ◌*◌, ◌^◌, ◌<◌, ◌∙◌, List, [], ◌∷◌, ◌++◌, length, get_or, take, drop, replicate, refl, sym, ap, arith, take-add}
use Rattle.std.specs.Prelude.{All}
use Rattle.std.specs.Simd.{first_chunks}
use Rattle.std.proofs.lemmas.Bool.{lt-ltb}
use Rattle.std.proofs.lemmas.List.{append-nil, drop-drop, drop_at, length-replicate, take-append-drop, take_more}
use Rattle.std.proofs.lemmas.List.Concat.{flat_map-append}
use Rattle.wah_words.specs.Word.{groups, run_group, run_count, word_groups}
use Rattle.wah_words.specs.Front.{IsFront}
use Rattle.fence_window.proofs.Places.{groups-cons}

-- a word has as many groups as it counts
pub length-word_groups : (word : ℕ) → length (word_groups word) ≡ run_count word
unfolding word_groups
length-word_groups word = length-replicate (run_count word) (run_group word)

-- the groups of a word are a run
pub word_groups-run : (word : ℕ) → word_groups word ≡ replicate (run_count word) (run_group word)
unfolding word_groups
word_groups-run word = refl

-- the groups of the first words and of the rest
pub groups-parted : (n : ℕ) (words : List ℕ) → groups words ≡ groups (take n words) ++ groups (drop n words)
groups-parted n words =
    ap groups (sym (take-append-drop n words)) ∙ flat_map-append word_groups (take n words) (drop n words)

-- a front of words is left out with its groups
pub groups-drop_front : (words : List ℕ) (most count group_count : ℕ) → IsFront words most count group_count
    → drop most (groups words) ≡ drop (most - group_count) (groups (drop count words))
groups-drop_front words most count group_count front =
    let parts : group_count + (most - group_count) ≡ most = omega (arith, front.few) in
    ap (λ n. drop n (groups words)) (sym parts)
    ∙ sym (drop-drop (most - group_count) group_count (groups words))
    ∙ ap (λ gs. drop (most - group_count) (drop group_count gs)) (groups-parted count words)
    ∙ ap (drop (most - group_count))
    (drop_at (groups (take count words)) (groups (drop count words)) group_count (sym front.is))

-- the groups of the first words and of some more
pub groups-take_add : (n m : ℕ) (words : List ℕ)
    → groups (take (n + m) words) ≡ groups (take n words) ++ groups (take m (drop n words))
groups-take_add n m words =
    ap groups (take-add n m words) ∙ flat_map-append word_groups (take n words) (take m (drop n words))

-- the groups of the first words and of one more
pub groups-take_suc : (n : ℕ) (words : List ℕ) → n < length words
    → groups (take (n + 1) words) ≡ groups (take n words) ++ word_groups (get_or words n 0)
groups-take_suc n words within =
    ap groups (take_more words n 0 within)
    ∙ flat_map-append word_groups (take n words) (get_or words n 0 ∷ [])
    ∙ ap (λ rest. groups (take n words) ++ rest) (append-nil (word_groups (get_or words n 0)))

-- literals are their own groups
pub groups-literals : (words : List ℕ) → All (λ word. word < 2 ^ 31) words → groups words ≡ words
groups-literals [] low = refl
groups-literals (w ∷ words) low =
    let below : w < 2 ^ 31 = low 0 0 (omega arith) in
    groups-cons w words
    ∙ rw (lt-ltb w (2 ^ 31) below)
    (ap (λ rest. w ∷ rest) (groups-literals words (λ k d within. low (suc k) d (omega arith))))

-- a chunk of the front
pub get_or-first_chunks : (n count : ℕ) (xs : List ℕ) (i : ℕ) → i < count
    → get_or (first_chunks n count xs) i [] ≡ take n (drop (i * n) xs)
get_or-first_chunks n zero xs i within = absurd (omega arith)
get_or-first_chunks n (suc count) xs zero within =
    let none : 0 * n ≡ 0 = omega arith in
    sym (ap (λ m. take n (drop m xs)) none)
get_or-first_chunks n (suc count) xs (suc i) within =
    let more : n + i * n ≡ suc i * n = omega arith in
    get_or-first_chunks n count (drop n xs) i (omega arith)
    ∙ ap (take n) (drop-drop (i * n) n xs)
    ∙ ap (λ m. take n (drop m xs)) more
