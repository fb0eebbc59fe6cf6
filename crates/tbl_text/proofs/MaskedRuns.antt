-- A run of bytes at the front and the bars in it, through masks of many bytes at a time.
use Rattle.std.proofs.Common.{◌≡◌, ℕ, zero, suc, ◌+◌, ◌*◌, ◌/◌, ◌%◌, ◌^◌, ◌<◌, ◌≤◌, Bool, true, false, not, cond, eqb, List, [], ◌∷◌, map, length, take, drop, count_by, refl, sym, ap, ap₂, ◌∙◌, arith}
use Rattle.std.proofs.Math.Nat.{zero-mod, mod-one}
use Rattle.std.proofs.Math.Seq.{take-add}
use Rattle.std.proofs.lemmas.Bool.{eq-eqb, ne_eqb}
use Rattle.std.proofs.lemmas.List.{take-take, take-map}
use Rattle.std.proofs.lemmas.List.Folds.{prefix_len-append}
use Rattle.std.proofs.lemmas.List.Sums.{prefix_len-le-length, sum_by-append}
use Rattle.std.proofs.lemmas.Nat.{mod-pow-add}
use Rattle.std.proofs.lemmas.Simd.{chunk-drop, length-chunk, leading_from_mask_l, trailing_mask_l, ones-mask_l}
use Rattle.std.specs.Int.RustNames.{count_ones}
use Rattle.std.specs.List.{prefix_len}
use lib.Count.{count_trailing_zeros}
use lib.Lanes.{chunk, mask_l}
use Rattle.tbl_text.specs.Lines.{is_bar}

-- ---- how far a run goes

not-not : (b : Bool) → b ≡ not (not b)
not-not true = refl
not-not false = refl

-- the mask of the bytes that fail a test
abbrev pub failed : (ℕ → Bool) → List ℕ → ℕ
failed q bytes = mask_l (map (λ b. not (q b)) bytes)

-- the run of bytes that pass, by the test that the masks make
same_run : (q : ℕ → Bool) (bytes : List ℕ) → prefix_len q bytes ≡ prefix_len (λ b. not (not (q b))) bytes
same_run q [] = refl
same_run q (b ∷ bytes) = ap₂ (λ t n. cond t (1 + n) 0) (not-not (q b)) (same_run q bytes)

-- one more byte in front of a run to the end
failed-cond : (t : Bool) (n len mask : ℕ) → n ≤ len → cond t (1 + n) 0 ≡ 1 + len → (n ≡ len → mask ≡ 0)
    → cond (not t) 1 0 + 2 * mask ≡ 0
failed-cond false n len mask le all rest = let no : ⊥ = omega arith in absurd no
failed-cond true n len mask le all rest = let none = rest (omega arith) in omega arith

-- none fails in a run to the end
failed-run : (q : ℕ → Bool) (bytes : List ℕ) → prefix_len q bytes ≡ length bytes → failed q bytes ≡ 0
failed-run q [] all = refl
failed-run q (b ∷ bytes) all =
    failed-cond (q b) (prefix_len q bytes) (length bytes) (failed q bytes) (prefix_len-le-length q bytes) (omega arith)
    (failed-run q bytes)

-- the run in some bytes, which the bytes behind them may prolong
run-chunk : (q : ℕ → Bool) (d : List ℕ) (i n : ℕ) (t : Bool)
    → eqb (prefix_len q (chunk i n d)) (length (chunk i n d)) ≡ t
    → prefix_len q (drop i d)
    ≡ cond t (length (chunk i n d) + prefix_len q (drop (i + n) d)) (prefix_len q (chunk i n d))
run-chunk q d i n t is =
    let c = chunk i n d in
    ap (prefix_len q) (chunk-drop i n d)
    ∙ prefix_len-append q c (drop (i + n) d)
    ∙ ap (λ b. cond b (length c + prefix_len q (drop (i + n) d)) (prefix_len q c)) is

-- where no byte fails the run goes on
pub run_through : (q : ℕ → Bool) (d : List ℕ) (i n : ℕ) → i + n ≤ length d → failed q (chunk i n d) ≡ 0
    → prefix_len q (drop i d) ≡ n + prefix_len q (drop (i + n) d)
run_through q d i n room none =
    let c = chunk i n d in
    let all : prefix_len q c ≡ length c = same_run q c ∙ leading_from_mask_l (λ b. not (q b)) c none in
    run-chunk q d i n true (eq-eqb _ _ all) ∙ ap (λ k. k + prefix_len q (drop (i + n) d)) (length-chunk i n d room)

-- where one does, the run ends at the first of them
pub run_stops : (q : ℕ → Bool) (d : List ℕ) (i n : ℕ) → i + n ≤ length d → n ≤ 64 → 0 < failed q (chunk i n d)
    → prefix_len q (drop i d) ≡ count_trailing_zeros 64 (failed q (chunk i n d))
run_stops q d i n room short some =
    let c = chunk i n d in
    let ends = ne_eqb _ _ (λ (all : prefix_len q c ≡ length c). omega (arith, failed-run q c all)) in
    let first = trailing_mask_l (λ b. not (q b)) 64 c (omega (arith, length-chunk i n d room)) some in
    run-chunk q d i n false ends ∙ same_run q c ∙ sym first

-- ---- how many bars

halved : (b : Bool) (m : ℕ) → ((cond b 1 0 + 2 * m) / 2 ≡ m) × ((cond b 1 0 + 2 * m) % 2 ≡ cond b 1 0)
halved true m = (omega arith, omega arith)
halved false m = (omega arith, omega arith)

-- the lowest bits of a mask are those of the first lanes
mask_l-low : (ms : List Bool) (k : ℕ) → mask_l ms % 2 ^ k ≡ mask_l (take k ms)
mask_l-low ms zero = mod-one (mask_l ms)
mask_l-low [] (suc k) = zero-mod (2 ^ suc k)
mask_l-low (b ∷ ms) (suc k) =
    let whole = cond b 1 0 + 2 * mask_l ms in
    let one : suc k ≡ k + 1 = omega arith in
    ap (λ n. whole % 2 ^ n) one ∙ mod-pow-add whole k 1
    ∙ omega (arith, (halved b (mask_l ms)).1, ap (λ m. m % 2 ^ k) (halved b (mask_l ms)).0, mask_l-low ms k)

-- the bars in as many bytes more as a mask has
pub bars_more : (d : List ℕ) (i n : ℕ)
    → count_by is_bar (take (i + n) d) ≡ count_by is_bar (take i d) + count_ones (mask_l (map is_bar (chunk i n d)))
bars_more d i n =
    ap (count_by is_bar) (take-add i n d) ∙ sum_by-append (λ b. cond (is_bar b) 1 0) (take i d) (take n (drop i d))
    ∙ ap (λ k. count_by is_bar (take i d) + k) (sym (ones-mask_l is_bar (chunk i n d)))

-- the bars in fewer of them
pub bars_last : (d : List ℕ) (i n k : ℕ) → k ≤ n
    → count_by is_bar (take (i + k) d)
    ≡ count_by is_bar (take i d) + count_ones (mask_l (map is_bar (chunk i n d)) % 2 ^ k)
bars_last d i n k few =
    let before = count_by is_bar (take i d) in
    let c = chunk i n d in
    let fewer = ap (map is_bar) (sym (take-take k n (drop i d) few)) ∙ sym (take-map is_bar k c) in
    bars_more d i k
    ∙ ap (λ ms. before + count_ones (mask_l ms)) fewer
    ∙ ap (λ m. before + count_ones m) (sym (mask_l-low (map is_bar c) k))
