-- A worker alone on its log ran a whole run.
use Rattle.std.proofs.Common.{◌≡◌, ℕ, zero, suc, ◌+◌, ◌<◌, ◌==◌, false, List, [], ◌∷◌, ◌++◌, length, map, flat_map, filter, All, refl, sym, ap, ◌∙◌, subst, arith}
use Rattle.std.specs.List.{AllZip, enumerate_from, slice_index_or}
use Rattle.std.proofs.lemmas.Bool.{cond-false}
use Rattle.cubit_base.specs.declared.delta.Delta.{Delta}
use Rattle.cubit_base.specs.declared.command.Command.{Command}
use Rattle.commit_log.specs.Log.{Terms, IsLog}
use Rattle.commit_log.specs.Handle.{Handle, places_by}
use Rattle.query_report.specs.declared.reply.Reply.{Reply}
use Rattle.query_report.specs.ReplyTable.{replies_of}
use Rattle.cubit_session.specs.Run.{Setting, Answers, IsPart, IsRun, NeverFall, marks_of, places_of}
use Rattle.cubit_session.specs.Step.{setting_of}
use Rattle.cubit_session.specs.Through.{HasRun}

-- no entry is another author's
none-from : (n w : ℕ) (log : List Delta) → 0 < w →
    ((k : ℕ) (d : Delta) → k < length log → (slice_index_or log k d).author ≡ 0) →
    filter (λ p. p.1.author == w) (enumerate_from n log) ≡ []
none-from n w [] some own = refl
none-from n w (d ∷ log) some own =
    let apart : (d.author == w) ≡ false =
    subst (λ a. (a == w) ≡ false) (sym (own 0 d (omega arith))) (grind (arith, some)) in
    cond-false {A = List (ℕ × Delta)} (d.author == w)
    ((n, d) ∷ filter (λ p. p.1.author == w) (enumerate_from (n + 1) log))
    (filter (λ p. p.1.author == w) (enumerate_from (n + 1) log)) apart
    ∙ none-from (n + 1) w log some (λ k e within. own (suc k) e (omega (arith, within)))

none-by : (w : ℕ) (log : List Delta) → 0 < w → All (λ d. d.author ≡ 0) log → places_by w log ≡ []
none-by w log some own = ap (map (λ p. p.0)) (none-from 0 w log some own)

first-part : (terms : Terms) (pages : ℕ) (start now : Handle) (commands : List Command) (replies : List (List Reply)) →
    HasRun (setting_of terms pages) start now commands replies → start.seen ≡ [] → start.author ≡ 0 →
    IsPart (setting_of terms pages) now.seen 0 commands (replies_of replies 0)
first-part terms pages start now commands replies run empty zero_is = record {
  answers = subst (λ author. AllZip (Answers (setting_of terms pages) now.seen author) commands (replies_of replies 0))
      zero_is run.answers;
  marks = subst (λ n. NeverFall n (flat_map marks_of (replies_of replies 0)) (length now.seen))
      (ap (λ (l : List Delta). length l) empty) run.adds.never_fall;
  places = sym (ap (λ a. places_by a now.seen) (sym (run.adds.grows.author ∙ zero_is)) ∙ run.adds.places_are
      ∙ ap (λ (l : List Delta). places_by start.author l ++ flat_map places_of (replies_of replies 0)) empty);
}

other-part : (s : Setting) (log : List Delta) (w : ℕ) (replies : List Reply) → 0 < w →
    All (λ d. d.author ≡ 0) log → replies ≡ [] → IsPart s log w [] replies
other-part s log w replies some own none =
    subst (IsPart s log w []) (sym none)
    (record { answers = tt; marks = omega arith; places = sym (none-by w log some own) })

pub whole-run : (terms : Terms) (pages : ℕ) (start now : Handle) (commands : List Command)
    (replies : List (List Reply)) → HasRun (setting_of terms pages) start now commands replies → start.seen ≡ [] →
    start.author ≡ 0 → IsLog terms now.seen → All (λ d. d.author ≡ 0) now.seen →
    IsRun (setting_of terms pages) (commands ∷ []) replies now.seen
whole-run terms pages start now commands replies run empty zero_is log own = record {
  history = log.history;
  within = log.within;
  parts = each;
} where
  each : (w : ℕ) → IsPart (setting_of terms pages) now.seen w (slice_index_or (commands ∷ []) w [])
      (replies_of replies w)
  each zero = first-part terms pages start now commands replies run empty zero_is
  each (suc w) = other-part (setting_of terms pages) now.seen (suc w) (replies_of replies (suc w)) (omega arith) own
      (run.others (suc w) (omega arith))
