-- A run under way with fewer groups.
use Rattle.std.proofs.Common.{◌≡◌, ℕ, zero, suc, ◌+◌, ◌%◌, ◌^◌, ◌<◌, ◌≤◌, ◌∙◌, List, [], ◌∷◌, ◌++◌, replicate, refl, sym, ap, subst, arith, inl, inr}
use Rattle.std.proofs.lemmas.List.{append-nil}
use Rattle.std.proofs.lemmas.Bool.{cases_lt}
use Rattle.wah_words.specs.Word.{run_group, groups}
use Rattle.wah_words.specs.Canonical.{AreRuns}
use Rattle.wah_words.specs.Pages.{underway, IsUnderway}
use Rattle.wah_words.proofs.Words.{groups-push, groups-grown, run_group-grown, run_count-fill, AreRuns-push, AreRuns-front, apart_last}
use Rattle.wah_words.proofs.Written.{underway-some}

-- a run under way with so many groups fewer
pub record IsShorter (run count next : ℕ) : Type 0 where
  pub none : next ≡ 0 → run % 2 ^ 30 ≡ count
  pub some : 0 < next → (next + count ≡ run) × (count < run % 2 ^ 30)
  pub false_rows : 0 < count → run_group run ≡ 0

replicate_same : (count g h : ℕ) → (0 < count → g ≡ h) → replicate count g ≡ replicate count h
replicate_same zero g h same = refl
replicate_same (suc n) g h same = ap (replicate (suc n)) (same (omega arith))

-- the rest of the run has the groups of the run
group-shorter : (run count next : ℕ) → IsUnderway run → IsShorter run count next → 0 < next
    → run_group next ≡ run_group run
group-shorter run count next fill is some =
    let parts = is.some some in
    sym (run_group-grown next count (omega (arith, fill)) (omega (arith, fill))) ∙ ap run_group parts.0

-- the rest of the run is a run under way
pub fill-shorter : (run count next : ℕ) → IsUnderway run → IsShorter run count next → IsUnderway next
fill-shorter run count next fill is = λ some.
    let parts = is.some some in (omega (arith, fill), omega (arith, fill))

-- the groups that are taken off are 0
pub groups-shorter : (run count next : ℕ) → IsUnderway run → IsShorter run count next
    → groups (underway run) ≡ groups (underway next) ++ replicate count 0
groups-shorter run count next fill is =
    elim (cases_lt 0 next) [
      | inl some ↦
          let parts = is.some some in
          let there : 0 < run = omega arith in
          ap groups (underway-some run there)
          ∙ ap (λ r. groups (r ∷ [])) (sym parts.0)
          ∙ groups-grown [] next count (omega (arith, fill)) (omega (arith, fill))
          ∙ ap (λ rest. groups (next ∷ []) ++ rest)
          (replicate_same count (run_group next) 0
          (λ taken. group-shorter run count next fill is some ∙ is.false_rows taken))
          ∙ ap (λ front. groups front ++ replicate count 0) (sym (underway-some next some))
      | inr none ↦
          let zero_next : 0 ≡ next = omega arith in
          let all : run % 2 ^ 30 ≡ count = is.none (sym zero_next) in
          subst (λ n. groups (underway run) ≡ groups (underway n) ++ replicate count 0) zero_next
          (elim (cases_lt 0 run) [
            | inl there ↦
                ap groups (underway-some run there)
                ∙ groups-push [] run
                ∙ ap (λ n. replicate n (run_group run)) (run_count-fill run (fill there).0 ∙ all)
                ∙ replicate_same count (run_group run) 0 is.false_rows
            | inr empty ↦
                let zero_run : 0 ≡ run = omega arith in
                let zero_count : 0 ≡ count = omega arith in
                subst (λ r. groups (underway r) ≡ replicate count 0) zero_run
                (subst (λ n. groups [] ≡ replicate n 0) zero_count refl)
          ])
    ]

-- with fewer groups under way the words are still runs
pub runs-shorter : (words : List ℕ) (run count next : ℕ) → IsUnderway run → IsShorter run count next
    → AreRuns (words ++ underway run) → AreRuns (words ++ underway next)
runs-shorter words run count next fill is runs =
    elim (cases_lt 0 run) [
      | inr none ↦
          let same : run ≡ next =
          elim (cases_lt 0 next) [
            | inl some ↦ absurd (let parts = is.some some in omega arith)
            | inr empty ↦ omega arith
          ] in
          subst (λ r. AreRuns (words ++ underway r)) same runs
      | inl there ↦
          let whole : AreRuns (words ++ run ∷ []) =
          subst (λ last. AreRuns (words ++ last)) (underway-some run there) runs in
          let front = AreRuns-front words run whole in
          elim (cases_lt 0 next) [
            | inl some ↦
                let parts = is.some some in
                let above : 2 ^ 31 ≤ next = omega (arith, fill) in
                subst (λ last. AreRuns (words ++ last)) (sym (underway-some next some))
                (AreRuns-push words next front
                (record {
                  literal = λ low. absurd (omega arith);
                  fill = λ _. omega (arith, run_count-fill next above, fill);
                })
                (λ more before _ same.
                apart_last words run whole more before (fill there).0
                (same ∙ group-shorter run count next fill is some)))
            | inr empty ↦
                let zero_next : 0 ≡ next = omega arith in
                subst (λ n. AreRuns (words ++ underway n)) zero_next (subst AreRuns (sym (append-nil words)) front)
          ]
    ]
