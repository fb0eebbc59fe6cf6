-- Words with each row turned.
use Rattle.std.proofs.Common.{◌≡◌, ℕ, ◌+◌, ◌-◌, ◌*◌, ◌/◌, ◌%◌, ◌^◌, ◌<◌, ◌≤◌, ◌∙◌, ◌↔◌, not, List, [], ◌∷◌, ◌++◌, length, get_or, replicate, map, refl, sym, ap, arith, inl, inr}
use Rattle.std.specs.Prelude.{bit_and, bit_xor}
use Rattle.std.specs.Int.Bits.{xor_add_and, xor_zero_r}
use Rattle.std.proofs.lemmas.Nat.{and_comm, and_mask, xor_block, xor_comm}
use Rattle.std.proofs.lemmas.List.{get_or-map, length-map, map-append}
use Rattle.std.proofs.lemmas.List.Concat.{flat_map-append}
use Rattle.std.proofs.lemmas.List.Elements.{All-from_get_or, All-head, All-tail}
use Rattle.std.proofs.lemmas.Bool.{cases_lt, le-ltb, lt-ltb}
use Rattle.wah_words.specs.Group.{group_rows, unpacked}
use Rattle.wah_words.specs.Word.{run_group, run_count, groups, turned_word}
use Rattle.wah_words.specs.Canonical.{AreRuns, AreWords, AreApart, IsMixedLiteral, IsCountedFill}
use Rattle.wah_words.proofs.Words.{run_group-literal, run_count-literal, run_group-false_fill, run_group-true_fill, run_count-fill, groups-cons, heads, run_group-lt}
use Rattle.wah_words.proofs.Pointwise.{group_rows-complement, unpacked-turned}

-- a word of the same kind whose rows are the others
record IsTurned (word turned : ℕ) : Type 0 where
  pub fill : (2 ^ 31 ≤ turned) ↔ (2 ^ 31 ≤ word)
  pub count : run_count turned ≡ run_count word
  pub group : run_group turned + run_group word ≡ 2 ^ 31 - 1

-- the others of 31 bits
xor-ones : (n : ℕ) → n < 2 ^ 31 → bit_xor 2147483647 n + n ≡ 2147483647
xor-ones n below =
    let kept : bit_and 2147483647 n ≡ n % 2 ^ 31 = and_comm 2147483647 n ∙ and_mask n 31 in
    omega (arith, xor_add_and 2147483647 n, kept)

-- the other value of a fill
xor-value_bit : (head count : ℕ) → count < 2 ^ 30
    → bit_xor (head * 2 ^ 30 + count) (2 ^ 30) ≡ bit_xor head 1 * 2 ^ 30 + count
xor-value_bit head count within =
    xor_block 30 head 1 count 0 within (omega arith) ∙ ap (λ rest. bit_xor head 1 * 2 ^ 30 + rest) (xor_zero_r count)

-- a literal turned
turned_literal : (word : ℕ) → word < 2 ^ 31 → IsTurned word (bit_xor word 2147483647)
turned_literal word below =
    let turned = bit_xor word 2147483647 in
    let others : turned + word ≡ 2147483647 = ap (λ n. n + word) (xor_comm word 2147483647) ∙ xor-ones word below in
    let literal : turned < 2 ^ 31 = omega arith in
    record {
      fill = (λ above. absurd (omega arith), λ above. absurd (omega arith));
      count = run_count-literal turned literal ∙ sym (run_count-literal word below);
      group = omega (arith, run_group-literal turned literal, run_group-literal word below);
    }

-- fills of as many groups and of both values
turned_values : (off on : ℕ) → off / 2 ^ 30 ≡ 2 → on / 2 ^ 30 ≡ 3 → off % 2 ^ 30 ≡ on % 2 ^ 30
    → (run_count on ≡ run_count off) × (run_group on + run_group off ≡ 2 ^ 31 - 1)
turned_values off on off_head on_head same = (
  run_count-fill on (omega arith) ∙ sym same ∙ sym (run_count-fill off (omega arith)),
  omega (arith, run_group-false_fill off off_head, run_group-true_fill on on_head),
)

turned_head : (word head : ℕ) → word / 2 ^ 30 ≡ head → bit_xor word (2 ^ 30) ≡ bit_xor head 1 * 2 ^ 30 + word % 2 ^ 30
turned_head word head is =
    let parts : word ≡ head * 2 ^ 30 + word % 2 ^ 30 = omega arith in
    ap (λ n. bit_xor n (2 ^ 30)) parts ∙ xor-value_bit head (word % 2 ^ 30) (omega arith)

-- a fill turned
turned_fill : (word : ℕ) → 2 ^ 31 ≤ word → word < 2 ^ 32 → IsTurned word (bit_xor word (2 ^ 30))
turned_fill word above below =
    let turned = bit_xor word (2 ^ 30) in
    elim (heads word above below) [
      | inl off ↦
          let is : turned ≡ 3 * 2 ^ 30 + word % 2 ^ 30 = turned_head word 2 off in
          let values = turned_values word turned off (omega arith) (omega arith) in
          record { fill = (λ _. above, λ _. omega arith); count = values.0; group = values.1 }
      | inr on ↦
          let is : turned ≡ 2 * 2 ^ 30 + word % 2 ^ 30 = turned_head word 3 on in
          let values = turned_values turned word (omega arith) on (omega arith) in
          record { fill = (λ _. above, λ _. omega arith); count = sym values.0; group = omega (arith, values.1) }
    ]

-- what is left of all ones
group_rows-turned : (turned group : ℕ) → group < 2 ^ 31 → turned + group ≡ 2 ^ 31 - 1
    → group_rows turned ≡ map not (group_rows group)
group_rows-turned turned group below others =
    let same : turned ≡ bit_xor 2147483647 group = omega (arith, xor-ones group below) in
    ap group_rows same ∙ group_rows-complement group

-- a word turned
turned : (word : ℕ) → word < 2 ^ 32 → IsTurned word (turned_word word)
turned word below =
    elim (cases_lt word (2 ^ 31)) [
      | inl low ↦ rw (lt-ltb word (2 ^ 31) low) (turned_literal word low)
      | inr high ↦ rw (le-ltb word (2 ^ 31) high) (turned_fill word high below)
    ]

mixed_turned : (word turned : ℕ) → IsTurned word turned → IsMixedLiteral word → IsMixedLiteral turned
mixed_turned word turned is mixed =
    λ below.
    elim (cases_lt word (2 ^ 31)) [
      | inl low ↦ let m = mixed low in (
        omega (arith, is.group, run_group-literal word low, run_group-literal turned below),
        omega (arith, is.group, run_group-literal word low, run_group-literal turned below),
      )
      | inr high ↦ absurd (omega (arith, is.fill.1 high))
    ]

counted_turned : (word turned : ℕ) → IsTurned word turned → IsCountedFill word → IsCountedFill turned
counted_turned word turned is counted = λ above. omega (arith, is.count, counted (is.fill.0 above))

apart_turned : (v w v' w' : ℕ) → IsTurned v v' → IsTurned w w' → AreApart v w → AreApart v' w'
apart_turned v w v' w' is_v is_w apart =
    λ above here same. apart (is_v.fill.0 above) (is_w.fill.0 here) (omega (arith, is_v.group, is_w.group, same))

-- turned runs are runs
pub AreRuns-turned : (words : List ℕ) → AreWords words → AreRuns words → AreRuns (map turned_word words)
AreRuns-turned words within runs =
    let is = λ (k : ℕ) (inside : k < length words). turned (get_or words k 0) (within k 0 inside) in
    let at = λ (k : ℕ) (inside : k < length words). get_or-map turned_word words k 0 0 inside in
    let long : length (map turned_word words) ≡ length words = length-map words turned_word in
    record {
      literals = All-from_get_or IsMixedLiteral (map turned_word words) 0
          (λ k inside. let there : k < length words = omega arith in
          rw (at k there) (mixed_turned (get_or words k 0) (turned_word (get_or words k 0)) (is k there)
          (runs.literals k 0 there)));
      fills = All-from_get_or IsCountedFill (map turned_word words) 0
          (λ k inside. let there : k < length words = omega arith in
          rw (at k there) (counted_turned (get_or words k 0) (turned_word (get_or words k 0)) (is k there)
          (runs.fills k 0 there)));
      neighbours = λ k inside.
          let here : k < length words = omega arith in
          let next : k + 1 < length words = omega arith in
          rw (at k here, at (k + 1) next)
          (apart_turned (get_or words k 0) (get_or words (k + 1) 0) (turned_word (get_or words k 0))
          (turned_word (get_or words (k + 1) 0)) (is k here) (is (k + 1) next) (runs.neighbours k next));
    }

unpacked-word : (word : ℕ) (words : List ℕ)
    → unpacked (groups (word ∷ words))
    ≡ unpacked (replicate (run_count word) (run_group word)) ++ unpacked (groups words)
unpacked-word word words = ap unpacked (groups-cons word words)
    ∙ flat_map-append group_rows (replicate (run_count word) (run_group word)) (groups words)

-- their rows are the others
pub unpacked-turned_words : (words : List ℕ) → AreWords words
    → unpacked (groups (map turned_word words)) ≡ map not (unpacked (groups words))
unpacked-turned_words [] within = refl
unpacked-turned_words (w ∷ words) within =
    let t = turned_word w in
    let is : IsTurned w t = turned w (All-head (λ x. x < 2 ^ 32) w words within) in
    let run = unpacked (replicate (run_count w) (run_group w)) in
    let rest = groups (map turned_word words) in
    unpacked-word t (map turned_word words)
    ∙ ap (λ n. unpacked (replicate n (run_group t)) ++ unpacked rest) is.count
    ∙ ap (λ front. front ++ unpacked rest)
    (unpacked-turned (run_count w) (run_group t) (run_group w)
    (group_rows-turned (run_group t) (run_group w) (run_group-lt w) is.group))
    ∙ ap (λ rest. map not run ++ rest)
    (unpacked-turned_words words (All-tail (λ x. x < 2 ^ 32) w words within))
    ∙ sym (map-append not run (unpacked (groups words)))
    ∙ ap (map not) (sym (unpacked-word w words))
