-- Groups that go behind open words as they lie in others.
use Rattle.std.proofs.Common.{◌≡◌, ℕ, ◌+◌, ◌-◌, ◌%◌, ◌^◌, ◌<◌, ◌≤◌, ◌∙◌, List, [], ◌∷◌, ◌++◌, length, get_or, replicate, sym, ap, subst, arith}
use Rattle.std.proofs.lemmas.List.{append-nil, append_assoc, length_push, get_or_push}
use Rattle.std.proofs.lemmas.List.Concat.{flat_map-append}
use Rattle.wah_words.specs.Word.{groups, run_group, run_count, word_groups}
use Rattle.wah_words.specs.Canonical.{AreRuns, AreApart}
use Rattle.wah_words.specs.Pages.{underway, IsUnderway, AreOpen, Writes}
use Rattle.wah_words.specs.Stretch.{Extends}
use Rattle.wah_words.proofs.Runs.{AreRuns-append}
use Rattle.wah_words.proofs.Words.{groups-push, groups-grown, AreRuns-push, AreRuns-grown, counted_last, run_count-fill}
use Rattle.wah_words.proofs.Written.{underway-some, writes_none, writes_more, last_apart}

-- the run under way counts so many groups more
pub writes_longer : (run g count : ℕ) → 2 ^ 31 ≤ run → run_group run ≡ g → run % 2 ^ 30 + count < 2 ^ 30
    → Writes run (replicate count g) [] (run + count)
writes_longer run g count above is room = record {
  stays = λ words opened.
      let before : AreRuns (words ++ run ∷ []) =
      subst (λ last. AreRuns (words ++ last)) (underway-some run (omega arith)) opened.runs in
      subst (λ all. AreOpen all (run + count)) (sym (append-nil words)) (record {
        runs = subst (λ last. AreRuns (words ++ last)) (sym (underway-some (run + count) (omega arith)))
            (AreRuns-grown words run count before above room);
        ended = λ none. absurd (omega arith);
      });
  same =
      ap (λ last. groups last ++ replicate count g) (underway-some run (omega arith))
      ∙ ap (λ group. groups (run ∷ []) ++ replicate count group) (sym is)
      ∙ sym (groups-grown [] run count above room)
      ∙ ap groups (sym (underway-some (run + count) (omega arith)));
}

-- another run begins
pub writes_run : (run w : ℕ) → 2 ^ 31 ≤ w → 1 ≤ run_count w → AreApart run w
    → Writes run (replicate (run_count w) (run_group w)) (underway run) w
writes_run run w above some apart = record {
  stays = λ words opened.
      record {
        runs = subst (λ last. AreRuns ((words ++ underway run) ++ last)) (sym (underway-some w (omega arith)))
            (AreRuns-push (words ++ underway run) w opened.runs
            (record { literal = λ low. absurd (omega arith); fill = λ _. some })
            (last_apart words run w opened apart));
        ended = λ none. absurd (omega arith);
      };
  same =
      sym (groups-push (underway run) w)
      ∙ ap (λ last. groups (underway run ++ last)) (sym (underway-some w (omega arith)));
}

-- words that stand apart from the run under way
words_apart : (words : List ℕ) (run : ℕ) (more : List ℕ) → AreOpen words run → AreRuns more → 0 < length more
    → AreApart run (get_or more 0 0) → AreRuns ((words ++ underway run) ++ more)
words_apart words run more opened runs some apart =
    AreRuns-append (words ++ underway run) more opened.runs runs
    (λ there _. last_apart words run (get_or more 0 0) opened apart there)

-- words of which the last is a literal
pub writes_words : (run : ℕ) (front : List ℕ) (last : ℕ) → AreRuns (front ++ last ∷ []) → last < 2 ^ 31
    → AreApart run (get_or (front ++ last ∷ []) 0 0)
    → Writes run (groups (front ++ last ∷ [])) ((underway run ++ front) ++ last ∷ []) 0
writes_words run front last runs low apart =
    let more = front ++ last ∷ [] in
    let written = (underway run ++ front) ++ last ∷ [] in
    let is : written ≡ underway run ++ more = append_assoc (underway run) front (last ∷ []) in
    record {
      stays = λ words opened.
          let whole : (words ++ underway run) ++ more ≡ words ++ written =
          append_assoc words (underway run) more ∙ ap (λ rest. words ++ rest) (sym is) in
          let front_of : (words ++ (underway run ++ front)) ++ last ∷ [] ≡ words ++ written =
          append_assoc words (underway run ++ front) (last ∷ []) in
          record {
            runs = subst AreRuns (whole ∙ sym (append-nil (words ++ written)))
                (words_apart words run more opened runs (omega (arith, length_push front last)) apart);
            ended = λ _ _.
                omega (
                  arith,
                  ap (λ all. get_or all (length all - 1) 0) front_of,
                  get_or_push (words ++ (underway run ++ front)) last 0
                      (length ((words ++ (underway run ++ front)) ++ last ∷ []) - 1)
                      (omega (arith, length_push (words ++ (underway run ++ front)) last)),
                );
          };
      same =
          sym (flat_map-append word_groups (underway run) more)
          ∙ ap groups (sym is)
          ∙ ap groups (sym (append-nil written));
    }

-- words of which the last is a fill, which is under way then
pub writes_words_fill : (run : ℕ) (front : List ℕ) (last : ℕ) → AreRuns (front ++ last ∷ []) → 2 ^ 31 ≤ last
    → AreApart run (get_or (front ++ last ∷ []) 0 0)
    → Writes run (groups (front ++ last ∷ [])) (underway run ++ front) last
writes_words_fill run front last runs above apart =
    let more = front ++ last ∷ [] in
    let end = underway-some last (omega arith) in
    record {
      stays = λ words opened.
          record {
            runs = subst AreRuns
                (append_assoc words (underway run) more
                ∙ ap (λ rest. words ++ rest) (sym (append_assoc (underway run) front (last ∷ [])))
                ∙ sym (append_assoc words (underway run ++ front) (last ∷ []))
                ∙ ap (λ rest. (words ++ (underway run ++ front)) ++ rest) (sym end))
                (words_apart words run more opened runs (omega (arith, length_push front last)) apart);
            ended = λ none. absurd (omega arith);
          };
      same =
          sym (flat_map-append word_groups (underway run) more)
          ∙ ap groups (sym (append_assoc (underway run) front (last ∷ [])))
          ∙ ap (λ rest. groups ((underway run ++ front) ++ rest)) (sym end);
    }

-- a fill of runs may be under way
pub fill_of_last : (front : List ℕ) (last : ℕ) → AreRuns (front ++ last ∷ []) → 2 ^ 31 ≤ last → IsUnderway last
fill_of_last front last runs above = λ _.
    (omega (arith, above), omega (arith, counted_last front last runs above, run_count-fill last above))

-- ---- behind some words

pub extends_none : (words : List ℕ) (run : ℕ) → IsUnderway run → Extends words run [] words run
extends_none words run fill =
    record { written = []; is = sym (append-nil words); writes = writes_none run; fill = fill }

pub extends_more : (words : List ℕ) (run : ℕ) (page mid : List ℕ) (next : ℕ) (others new : List ℕ) (last : ℕ)
    → Extends words run page mid next → Extends mid next others new last → Extends words run (page ++ others) new last
extends_more words run page mid next others new last first then_more = record {
  written = first.written ++ then_more.written;
  is =
      then_more.is
      ∙ ap (λ front. front ++ then_more.written) first.is
      ∙ append_assoc words first.written then_more.written;
  writes = writes_more run next last page others first.written then_more.written first.writes then_more.writes;
  fill = then_more.fill;
}
