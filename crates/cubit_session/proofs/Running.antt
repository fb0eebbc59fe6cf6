-- One command more of a run.
use Rattle.std.proofs.Common.{◌≡◌, ℕ, zero, suc, ◌+◌, ◌-◌, ◌≤◌, ◌<◌, List, [], ◌∷◌, ◌++◌, length, flat_map, replicate, nat_lt, Some, refl, sym, ap, ◌∙◌, subst, arith}
use Rattle.std.specs.List.{AllZip}
use Rattle.std.proofs.lemmas.List.{append-nil}
use Rattle.std.proofs.lemmas.Bool.{cond-true, lt-ltb}
use Rattle.std.proofs.lemmas.Grind.{flat_map-append}
use Rattle.cubit_base.specs.Answer.{Answer, answer}
use Rattle.cubit_base.specs.Change as changes
use Rattle.cubit_base.specs.LiveRow.{live_row}
use Rattle.cubit_base.specs.History.{after}
use Rattle.cubit_base.specs.declared.delta.Delta.{Delta}
use Rattle.cubit_base.specs.declared.command.Command.{Command}
use Rattle.cubit_base.specs.declared.command.Command.TheVariants.{Insert, Update, Delete, DropOrder, Lookup, Rows, Count, Sum, Q6, Merge}
use Rattle.cubit_base.specs.declared.predicate.Predicate.{Predicate}
use Rattle.commit_log.specs.Growing.{begins-length, take-begins}
use Rattle.commit_log.specs.Handle.{Handle, Begins}
use Rattle.query_report.specs.declared.reply.DropLine.{DropLine}
use Rattle.query_report.specs.declared.reply.Reply.{Reply}
use Rattle.query_report.specs.declared.reply.Reply.TheVariants as reply
use Rattle.query_report.specs.ReplyTable.{replies_of, added}
use Rattle.cubit_session.specs.Run.{Setting, Answers, TellsLines, TellsAnswer, outcome_reply, outcome_line, live_reply, marks_of, places_of, table_at}
use Rattle.cubit_session.specs.Step.{AddsTo}
use Rattle.cubit_session.specs.Through.{HasRun}
use Rattle.cubit_session.proofs.Adding.{adds-on, adds-none}
use Rattle.cubit_session.proofs.Answering.{tells-later}

pub table-later : (s : Setting) (log longer : List Delta) (front : ℕ) → Begins log longer → front ≤ length log →
    table_at s longer front ≡ table_at s log front
table-later s log longer front begins within =
    ap (λ (l : List Delta). after s.base l) (take-begins log longer front begins within)

lines-later : (s : Setting) (log longer : List Delta) (author order number : ℕ) (lines : List DropLine) →
    Begins log longer → TellsLines s log author order number lines → TellsLines s longer author order number lines
lines-later s log longer author order number [] begins end = end
lines-later s log longer author order number (told ∷ lines) begins (first, rest) = (
  tells-later s log longer author (changes.Delete (record { order = order; line = number })) outcome_line (Some told)
      begins first,
  lines-later s log longer author order (number + 1) lines begins rest,
)

answer-later : (s : Setting) (log longer : List Delta) (p : Predicate) (tell : ℕ → Answer → ℕ → Reply) (told : Reply) →
    Begins log longer → TellsAnswer s log p tell told → TellsAnswer s longer p tell told
answer-later s log longer p tell told begins (front, patched, within, few, is) =
    let long = begins-length log longer begins in (
      front,
      patched,
      omega (arith, within, long),
      few,
      ap (λ table. tell front (answer table p) patched) (table-later s log longer front begins within) ∙ is,
    )

pub answers-later : (s : Setting) (log longer : List Delta) (author : ℕ) (command : Command) (told : Reply) →
    Begins log longer → Answers s log author command told → Answers s longer author command told
answers-later s log longer author (Insert key tuple) told begins is =
    tells-later s log longer author (changes.Insert key tuple) outcome_reply told begins is
answers-later s log longer author (Update key tuple) told begins is =
    tells-later s log longer author (changes.Update key tuple) outcome_reply told begins is
answers-later s log longer author (Delete key) told begins is =
    tells-later s log longer author (changes.Delete key) outcome_reply told begins is
answers-later s log longer author (DropOrder order) told begins (lines, tells, is) =
    (lines, lines-later s log longer author order 1 lines begins tells, is)
answers-later s log longer author (Lookup key) told begins (front, within, is) =
    let long = begins-length log longer begins in (
      front,
      omega (arith, within, long),
      ap (λ table. live_reply front (live_row table key)) (table-later s log longer front begins within) ∙ is,
    )
answers-later s log longer author (Rows p) told begins is =
    answer-later s log longer p (λ front a patched. reply.Rows front a.rows patched) told begins is
answers-later s log longer author (Count p) told begins is =
    answer-later s log longer p (λ front a patched. reply.Count front a.count patched) told begins is
answers-later s log longer author (Sum p) told begins is =
    answer-later s log longer p (λ front a patched. reply.Sum front a.count a.sum patched) told begins is
answers-later s log longer author (Q6 p) told begins is =
    answer-later s log longer p (λ front a patched. reply.Q6 front a.count a.sum patched) told begins is
answers-later s log longer author Merge told begins is = is

-- a list of commands with one more
zip-next : (s : Setting) (log longer : List Delta) (author : ℕ) (commands : List Command) (replies : List Reply)
    (command : Command) (told : Reply) → Begins log longer → AllZip (Answers s log author) commands replies →
    Answers s longer author command told →
    AllZip (Answers s longer author) (commands ++ command ∷ []) (replies ++ told ∷ [])
zip-next s log longer author [] [] command told begins so_far is = (is, tt)
zip-next s log longer author [] (r ∷ rs) command told begins so_far is = absurd so_far
zip-next s log longer author (c ∷ cs) [] command told begins so_far is = absurd so_far
zip-next s log longer author (c ∷ cs) (r ∷ rs) command told begins so_far is = (
  answers-later s log longer author c r begins so_far.0,
  zip-next s log longer author cs rs command told begins so_far.1 is,
)

-- the first worker's list, where there is one
added-head : (first : List Reply) (lists : List (List Reply)) (told : Reply) →
    added (first ∷ lists) 0 told ≡ (first ++ told ∷ []) ∷ lists
added-head first lists told =
    cond-true {A = List (List Reply)} (nat_lt 0 (length (first ∷ lists))) ((first ++ told ∷ []) ∷ lists)
    ((first ∷ lists) ++ (replicate (0 - length (first ∷ lists)) [] ++ (told ∷ []) ∷ []))
    (lt-ltb 0 (length (first ∷ lists)) (omega arith))

pub added-first : (lists : List (List Reply)) (told : Reply) →
    replies_of (added lists 0 told) 0 ≡ replies_of lists 0 ++ told ∷ []
added-first [] told = refl
added-first (first ∷ lists) told =
    ap (λ (l : List (List Reply)). replies_of l 0) (added-head first lists told)

added-others : (lists : List (List Reply)) (told : Reply) → ((w : ℕ) → 0 < w → replies_of lists w ≡ []) →
    (w : ℕ) → 0 < w → replies_of (added lists 0 told) w ≡ []
added-others lists told none zero some = absurd (omega (arith, some))
added-others [] told none (suc w) some = refl
added-others (first ∷ lists) told none (suc w) some =
    ap (λ (l : List (List Reply)). replies_of l (suc w)) (added-head first lists told) ∙ none (suc w) some

pub has-run-none : (s : Setting) (handle : Handle) → HasRun s handle handle [] []
has-run-none s handle = record { answers = tt; adds = adds-none handle; others = λ w some. refl }

pub has-run-next : (s : Setting) (handle between now : Handle) (commands : List Command) (lists : List (List Reply))
    (command : Command) (told : Reply) → HasRun s handle between commands lists →
    Answers s now.seen between.author command told → AddsTo between now (marks_of told) (places_of told) →
    HasRun s handle now (commands ++ command ∷ []) (added lists 0 told)
has-run-next s handle between now commands lists command told run is adds =
    let first = sym (added-first lists told) in record {
      answers = subst (AllZip (Answers s now.seen handle.author) (commands ++ command ∷ [])) first
          (zip-next s between.seen now.seen handle.author commands (replies_of lists 0) command told adds.grows.begins
          run.answers (subst (λ author. Answers s now.seen author command told) run.adds.grows.author is));
      adds = subst (λ (l : List Reply). AddsTo handle now (flat_map marks_of l) (flat_map places_of l)) first
          (subst (λ m. AddsTo handle now m (flat_map places_of (replies_of lists 0 ++ told ∷ [])))
          (sym (flat_map-append marks_of (replies_of lists 0) (told ∷ [])
          ∙ ap (λ m. flat_map marks_of (replies_of lists 0) ++ m) (append-nil (marks_of told))))
          (subst (λ p. AddsTo handle now (flat_map marks_of (replies_of lists 0) ++ marks_of told) p)
          (sym (flat_map-append places_of (replies_of lists 0) (told ∷ [])
          ∙ ap (λ m. flat_map places_of (replies_of lists 0) ++ m) (append-nil (places_of told))))
          (adds-on handle between now (flat_map marks_of (replies_of lists 0)) (marks_of told)
          (flat_map places_of (replies_of lists 0)) (places_of told) run.adds adds)));
      others = added-others lists told run.others;
    }
