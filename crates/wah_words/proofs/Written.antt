-- Words that groups make behind open words, and the run that they leave under way.
use Rattle.std.proofs.Common.{◌≡◌, ℕ, zero, suc, ◌+◌, ◌-◌, ◌%◌, ◌^◌, ◌<◌, ◌≤◌, ◌∙◌, ◌*◌, cond, not, eqb, List, [], ◌∷◌, ◌++◌, length, get_or, take, replicate, refl, sym, ap, subst, arith, inl, inr}
use Rattle.std.proofs.lemmas.List.{append-nil, append_assoc, length_push, get_or_push}
use Rattle.std.proofs.lemmas.List.Concat.{flat_map-append}
use Rattle.std.proofs.lemmas.Bool.{cases_lt, ne_eqb}
use Rattle.wah_words.specs.Word.{run_group, run_count, word_groups, groups}
use Rattle.wah_words.specs.Canonical.{AreRuns, AreApart}
use Rattle.wah_words.specs.Pages.{underway, IsUnderway, false_run, AreOpen, Writes, IsWriting}
use Rattle.wah_words.proofs.Words.{groups-push, groups-push_literal, groups-grown, AreRuns-push, AreRuns-grown, run_group-false_fill, run_count-fill}

-- a run under way is one word
pub underway-some : (run : ℕ) → 0 < run → underway run ≡ run ∷ []
underway-some run some = ap (λ none. cond none [] (run ∷ [])) (ne_eqb run 0 (λ none. omega arith))

-- a run under way is one word at most
pub underway-few : (run : ℕ) → length (underway run) ≤ 1
underway-few zero = omega arith
underway-few (suc n) = omega (arith, ap length (underway-some (suc n) (omega arith)))

-- the run of some false groups
pub false_run-some : (count : ℕ) → 0 < count → false_run count ≡ 2 ^ 31 + count
false_run-some count some = ap (λ none. cond none 0 (2 ^ 31 + count)) (ne_eqb count 0 (λ none. omega arith))

-- no group makes no word
pub writes_none : (run : ℕ) → Writes run [] [] run
writes_none run = record {
  stays = λ words opened. subst (λ all. AreOpen all run) (sym (append-nil words)) opened;
  same = append-nil (groups (underway run));
}

-- what some groups make, and what others make behind that
pub writes_more : (run next last : ℕ) (page others written more : List ℕ) → Writes run page written next
    → Writes next others more last → Writes run (page ++ others) (written ++ more) last
writes_more run next last page others written more first then = record {
  stays = λ words opened.
      subst (λ all. AreOpen all last) (append_assoc words written more)
      (then.stays (words ++ written) (first.stays words opened));
  same =
      sym (append_assoc (groups (underway run)) page others)
      ∙ ap (λ front. front ++ others) (first.same ∙ flat_map-append word_groups written (underway next))
      ∙ append_assoc (groups written) (groups (underway next)) others
      ∙ ap (λ rest. groups written ++ rest) then.same
      ∙ sym (flat_map-append word_groups written (more ++ underway last))
      ∙ ap groups (sym (append_assoc written more (underway last)));
}

-- what is written of so many groups of false rows that end
pub ended-false : (zeros : ℕ) → cond (not (eqb zeros 0)) ((2 ^ 31 + zeros) ∷ []) [] ≡ underway (false_run zeros)
ended-false zero = refl
ended-false (suc n) =
    ap (λ none. cond (not none) ((2 ^ 31 + suc n) ∷ []) []) (ne_eqb (suc n) 0 (λ none. omega arith))
    ∙ sym (underway-some (2 ^ 31 + suc n) (omega arith))
    ∙ ap underway (sym (false_run-some (suc n) (omega arith)))

-- some false groups are under way
pub false_run-fill : (count : ℕ) → 0 < count → count < 2 ^ 30 → IsUnderway (false_run count)
false_run-fill count some few = λ _.
    (omega (arith, false_run-some count some), omega (arith, false_run-some count some))

-- a run of false groups is that of its count
pub false_run-count : (run : ℕ) → IsUnderway run → run < 3 * 2 ^ 30 → false_run (run % 2 ^ 30) ≡ run
false_run-count run fill below =
    elim (cases_lt 0 run) [
      | inl some ↦
          omega (arith, false_run-some (run % 2 ^ 30) (fill some).1, fill some)
      | inr none ↦
          let zero_run : 0 ≡ run = omega arith in
          subst (λ n. false_run (n % 2 ^ 30) ≡ n) zero_run refl
    ]

-- ---- one group

-- behind the run under way stands a word with rows that differ
pub writes_literal : (run g : ℕ) → 0 < g → g < 2 ^ 31 - 1 → Writes run (g ∷ []) (underway run ++ g ∷ []) 0
writes_literal run g some_true some_false = record {
  stays = λ words opened.
      let front = words ++ underway run in
      let next = words ++ (underway run ++ g ∷ []) in
      let is : front ++ g ∷ [] ≡ next = append_assoc words (underway run) (g ∷ []) in
      let pushed : AreRuns (front ++ g ∷ []) =
      AreRuns-push front g opened.runs
      (record { literal = λ _. (some_true, some_false); fill = λ above. absurd (omega arith) })
      (λ _ _ above. absurd (omega arith)) in
      record {
        runs = subst AreRuns (is ∙ sym (append-nil next)) pushed;
        ended = λ _ _.
            omega (
              arith,
              ap (λ all. get_or all (length all - 1) 0) is,
              get_or_push front g 0 (length (front ++ g ∷ []) - 1) (omega (arith, length_push front g)),
            );
      };
  same =
      sym (groups-push_literal (underway run) g (omega arith))
      ∙ ap groups (sym (append-nil (underway run ++ g ∷ [])));
}

-- the run under way grows
pub writes_grown : (run g : ℕ) → 2 ^ 31 ≤ run → run_group run ≡ g → run % 2 ^ 30 + 1 < 2 ^ 30
    → Writes run (g ∷ []) [] (run + 1)
writes_grown run g above is room = record {
  stays = λ words opened.
      let before : AreRuns (words ++ run ∷ []) =
      subst (λ last. AreRuns (words ++ last)) (underway-some run (omega arith)) opened.runs in
      subst (λ all. AreOpen all (run + 1)) (sym (append-nil words)) (record {
        runs = subst (λ last. AreRuns (words ++ last)) (sym (underway-some (run + 1) (omega arith)))
            (AreRuns-grown words run 1 before above room);
        ended = λ none. absurd (omega arith);
      });
  same =
      ap (λ last. groups last ++ g ∷ []) (underway-some run (omega arith))
      ∙ ap (λ group. groups (run ∷ []) ++ group ∷ []) (sym is)
      ∙ sym (groups-grown [] run 1 above room)
      ∙ ap groups (sym (underway-some (run + 1) (omega arith)));
}

-- the last of open words, and a fill that the run under way does not join
pub last_apart : (words : List ℕ) (run w : ℕ) → AreOpen words run → AreApart run w → 0 < length (words ++ underway run)
    → AreApart (get_or (words ++ underway run) (length (words ++ underway run) - 1) 0) w
last_apart words zero w opened apart some =
    let all : words ++ [] ≡ words = append-nil words in
    subst (λ list. AreApart (get_or list (length list - 1) 0) w) (sym all)
    (λ above. absurd (omega (arith, opened.ended refl (omega (arith, ap length all)))))
last_apart words (suc n) w opened apart some =
    let all = words ++ suc n ∷ [] in
    let last : get_or all (length all - 1) 0 ≡ suc n =
    get_or_push words (suc n) 0 (length all - 1) (omega (arith, length_push words (suc n))) in
    subst (λ end. AreApart (get_or (words ++ end) (length (words ++ end) - 1) 0) w)
    (sym (underway-some (suc n) (omega arith))) (subst (λ v. AreApart v w) (sym last) apart)

-- another run begins
pub writes_fill : (run g w : ℕ) → 2 ^ 31 ≤ w → run_count w ≡ 1 → run_group w ≡ g → AreApart run w
    → Writes run (g ∷ []) (underway run) w
writes_fill run g w above one is apart = record {
  stays = λ words opened.
      record {
        runs = subst (λ last. AreRuns ((words ++ underway run) ++ last)) (sym (underway-some w (omega arith)))
            (AreRuns-push (words ++ underway run) w opened.runs
            (record { literal = λ low. absurd (omega arith); fill = λ _. omega arith })
            (last_apart words run w opened apart));
        ended = λ none. absurd (omega arith);
      };
  same =
      ap (λ group. groups (underway run) ++ group ∷ []) (sym is)
      ∙ ap (λ n. groups (underway run) ++ replicate n (run_group w)) (sym one)
      ∙ sym (groups-push (underway run) w)
      ∙ ap (λ last. groups (underway run ++ last)) (sym (underway-some w (omega arith)));
}

-- a group of false rows more
pub writes_false : (count : ℕ) → count + 1 < 2 ^ 30 → Writes (false_run count) (0 ∷ []) [] (false_run (count + 1))
writes_false zero room =
    writes_fill 0 0 (2 ^ 31 + 1) (omega arith) (run_count-fill (2 ^ 31 + 1) (omega arith))
    (run_group-false_fill (2 ^ 31 + 1) (omega arith)) (λ above. absurd (omega arith))
writes_false (suc n) room =
    let now = false_run-some (suc n) (omega arith) in
    let next : 2 ^ 31 + suc n + 1 ≡ false_run (suc n + 1) =
    omega (arith, false_run-some (suc n + 1) (omega arith)) in
    subst (λ run. Writes run (0 ∷ []) [] (false_run (suc n + 1))) (sym now)
    (subst (λ run. Writes (2 ^ 31 + suc n) (0 ∷ []) [] run) next
    (writes_grown (2 ^ 31 + suc n) 0 (omega arith)
    (run_group-false_fill (2 ^ 31 + suc n) (omega arith)) (omega arith)))

-- ---- in an array

-- no group yet
pub writing_none : (run : ℕ) (out : List ℕ) → IsUnderway run → IsWriting run [] out 0 run
writing_none run out fill = record { writes = writes_none run; fill = fill; few = omega (arith, underway-few run) }

-- the words of one group more
pub writing_more : (before : ℕ) (page out : List ℕ) (len run g : ℕ) (new : List ℕ) (size next : ℕ) (more : List ℕ)
    → IsWriting before page out len run → Writes run (g ∷ []) more next → take size new ≡ take len out ++ more
    → IsUnderway next → size + length (underway next) ≤ len + length (underway run) + 1
    → IsWriting before (page ++ g ∷ []) new size next
writing_more before page out len run g new size next more is step words fill few = record {
  writes = subst (λ list. Writes before (page ++ g ∷ []) list next) (sym words)
      (writes_more before run next page (g ∷ []) (take len out) more is.writes step);
  fill = fill;
  few = omega (arith, is.few, length_push page g);
}
