-- The last groups of open words, where they are 0.
use Rattle.std.proofs.Common.{◌≡◌, ℕ, ◌+◌, ◌-◌, ◌*◌, ◌%◌, ◌^◌, ◌<◌, ◌≤◌, ◌∙◌, false, List, [], ◌∷◌, ◌++◌, length, get_or, take, drop, replicate, refl, sym, ap, subst, arith, inl, inr}
use Rattle.std.specs.Prelude.{All}
use Rattle.std.proofs.lemmas.List.{append-nil, length_push, get_or_append_left, get_or_push, drop-drop, nil_from_length}
use Rattle.std.proofs.lemmas.List.Elements.{All-take, All-drop}
use Rattle.std.proofs.lemmas.Bool.{cases_lt}
use Rattle.wah_words.specs.Group.{unpacked}
use Rattle.wah_words.specs.Word.{run_group, run_count, groups}
use Rattle.wah_words.specs.Canonical.{AreRuns, IsCountedFill}
use Rattle.wah_words.specs.Pages.{AreOpen}
use Rattle.wah_words.proofs.Bits.{mask-false}
use Rattle.wah_words.proofs.Groups.{group_from_rows}
use Rattle.wah_words.proofs.Reading.{ends_in}
use Rattle.wah_words.proofs.Words.{groups-push, length-groups-push, run_group-literal, run_count-fill, AreRuns-front, apart_last}
use Rattle.wah_words.proofs.Paged.{fill_from_group}

-- a group past the last true row is 0
pub group_past : (gs : List ℕ) (rows k : ℕ) → All (λ g. g < 2 ^ 31) gs
    → All (λ row. row ≡ false) (drop rows (unpacked gs)) → rows ≤ 31 * k → get_or gs k 0 ≡ 0
group_past gs rows k within padding past =
    let place : rows + (31 * k - rows) ≡ 31 * k = omega arith in
    let behind : drop (31 * k - rows) (drop rows (unpacked gs)) ≡ drop (31 * k) (unpacked gs) =
    drop-drop (31 * k - rows) rows (unpacked gs) ∙ ap (λ n. drop n (unpacked gs)) place in
    group_from_rows gs k within
    ∙ mask-false (take 31 (drop (31 * k) (unpacked gs)))
    (All-take (λ row. row ≡ false) 31 (drop (31 * k) (unpacked gs))
    (subst (All (λ row. row ≡ false)) behind
    (All-drop (λ row. row ≡ false) (31 * k - rows) (drop rows (unpacked gs)) padding)))

last_group : (words : List ℕ) → 0 < length words → IsCountedFill (get_or words (length words - 1) 0)
    → (0 < length (groups words))
    × (get_or (groups words) (length (groups words) - 1) 0 ≡ run_group (get_or words (length words - 1) 0))
last_group words some counted =
    let ends = ends_in words (length words - 1) (omega arith) counted in
    let g = run_group (get_or words (length words - 1) 0) in (
      omega (arith, ap length ends.1, length_push ends.0 g),
      ap (λ gs. get_or gs (length gs - 1) 0) ends.1
          ∙ get_or_push ends.0 g 0 (length (ends.0 ++ g ∷ []) - 1) (omega (arith, length_push ends.0 g)),
    )

-- the last groups are 0
abbrev pub EndsFalse : List ℕ → ℕ → Type 0
EndsFalse gs count = (k : ℕ) → k < length gs → length gs ≤ k + count → get_or gs k 0 ≡ 0

-- where none is under way the last group is not 0
pub none_false : (words : List ℕ) (count : ℕ) → AreOpen words 0 → 0 < count → count ≤ length (groups words)
    → EndsFalse (groups words) count → ⊥
none_false words count opened some within ends =
    let runs : AreRuns words = subst AreRuns (append-nil words) opened.runs in
    elim (cases_lt 0 (length words)) [
      | inr none ↦ absurd (omega (arith, ap (λ ws. length (groups ws)) (nil_from_length words (omega arith))))
      | inl there ↦
          let w = get_or words (length words - 1) 0 in
          let low : w < 2 ^ 31 = opened.ended refl there in
          let last = last_group words there (runs.fills (length words - 1) 0 (omega arith)) in
          let mixed = runs.literals (length words - 1) 0 (omega arith) low in
          omega (
            arith,
            mixed.0,
            run_group-literal w low,
            last.1,
            ends (length (groups words) - 1) (omega (arith, last.0)) (omega (arith, last.0)),
          )
    ]

-- groups of false rows at the end are under way
pub ends_underway : (words : List ℕ) (run count : ℕ) → AreRuns (words ++ run ∷ []) → 2 ^ 31 ≤ run → 0 < count
    → count ≤ length (groups (words ++ run ∷ [])) → EndsFalse (groups (words ++ run ∷ [])) count
    → (run_group run ≡ 0) × (count ≤ run % 2 ^ 30)
ends_underway words run count runs above some within ends =
    let all = words ++ run ∷ [] in
    let long : length (groups all) ≡ length (groups words) + run % 2 ^ 30 =
    omega (arith, length-groups-push words run, run_count-fill run above) in
    let at : length words ≡ length all - 1 = omega (arith, length_push words run) in
    let is : get_or all (length all - 1) 0 ≡ run = get_or_push words run 0 (length all - 1) at in
    let last = last_group all (omega (arith, length_push words run))
    (runs.fills (length all - 1) 0 (omega (arith, length_push words run))) in
    let false_rows : run_group run ≡ 0 =
    ap run_group (sym is) ∙ sym last.1
    ∙ ends (length (groups all) - 1) (omega (arith, last.0)) (omega (arith, last.0)) in (
      false_rows,
      elim (cases_lt (run % 2 ^ 30) count) [
        | inr enough ↦ enough
        | inl fewer ↦
            let there : 0 < length words =
            elim (cases_lt 0 (length words)) [
              | inl more ↦ more
              | inr none ↦
                  absurd (omega (arith, ap (λ ws. length (groups ws)) (nil_from_length words (omega arith))))
            ] in
            let front = AreRuns-front words run runs in
            let w = get_or words (length words - 1) 0 in
            let before = last_group words there (front.fills (length words - 1) 0 (omega arith)) in
            let k = length (groups words) - 1 in
            let same : run_group w ≡ run_group run =
            sym before.1
            ∙ sym (get_or_append_left (groups words) (replicate (run_count run) (run_group run)) 0 k
            (omega (arith, before.0)))
            ∙ ap (λ gs. get_or gs k 0) (sym (groups-push words run))
            ∙ ends k (omega (arith, before.0)) (omega (arith, before.0))
            ∙ sym false_rows in
            absurd (apart_last words run runs there
            (fill_from_group w run (front.literals (length words - 1) 0 (omega arith)) above same) above same)
      ],
    )
