use Rattle.std.proofs.Common.{◌≡◌, ℕ, ◌+◌, ◌-◌, ◌^◌, ◌<◌, ◌≤◌, ◌∙◌, ◌++◌, [], ◌∷◌, List, not, eqb, get_or, length, replicate, sym, ap, arith, subst}
use mir.Val.{bool_byte}
use Rattle.std.proofs.lemmas.List.{append-nil, length-append}
use Rattle.wah_words.specs.Word.{groups, run_count, run_group}
use Rattle.wah_words.specs.Canonical.{AreApart}
use Rattle.wah_words.specs.Pages.{underway}
use Rattle.wah_words.specs.Stretch.{Extends, words_between}
use Rattle.wah_words.proofs.Copies.{rest-le, underway-le, apart_next, apart_behind, runs_between, first_between, IsPart, part_is, underway_words, lies_behind}
use Rattle.wah_words.proofs.Stretches.{extends_more}
use Rattle.wah_words.proofs.stretch.copy.Goals as goal
use Rattle.wah_words.proofs.stretch.copy.Goals.{In_ok-run, After-of_word}

pub push_run-requires-clause-room : goal.push_run-requires-clause-room
push_run-requires-clause-room c =
    omega (
      arith,
      c.part.ensures.count,
      c.of_word-left.ensures.count,
      c.requires.room,
      underway-le c.args.out.now.items c.args.run c.requires.fill,
      rest-le c.args.words.now _ c.args.first c.requires.first
          (omega (arith, c.requires.order, c.requires.within)) c.requires.first_inside,
    )

pub push_words-requires-clause-runs : goal.push_words-requires-clause-runs
push_words-requires-clause-runs c =
    runs_between c.args.words.now (c.args.first.word + 1) (c.args.last.word - (c.args.first.word + 1)) c.requires.runs
    (omega (arith, c.requires.order, c.requires.within))

-- what is under way behind the first run has its group
same_group : (c : In_ok-run) → 0 < c.in_ok-run.run'
    → run_group c.in_ok-run.run' ≡ run_group (get_or c.args.words.now c.args.first.word 0)
same_group c some = c.in_ok-run.ensures.group some ∙ c.part.ensures.group ∙ c.of_word-left.ensures.group

pub push_words-requires-clause-apart : goal.push_words-requires-clause-apart
push_words-requires-clause-apart c = λ some.
    let words = c.args.words.now in
    let v = c.args.first.word in
    let count = c.args.last.word - (v + 1) in
    subst (AreApart c.in_ok-run.run') (sym (first_between words (v + 1) count some))
    (apart_next words v c.in_ok-run.run' c.requires.runs (omega (arith, c.requires.order, c.requires.within))
    (same_group (goal.at.push_words-requires-clause-apart c).In_ok-run))

-- the first run, as it was put behind
first_run : (c : In_ok-run) → Extends c.args.out.now.items c.args.run
    (replicate (run_count (get_or c.args.words.now c.args.first.word 0) - c.args.first.skipped)
    (run_group (get_or c.args.words.now c.args.first.word 0)))
    c.push_run.new.words.items c.in_ok-run.run'
first_run c =
    let count : c.part.result.count ≡ run_count (get_or c.args.words.now c.args.first.word 0) - c.args.first.skipped =
    c.part.ensures.count ∙ ap (λ n. n - c.args.first.skipped) c.of_word-left.ensures.count in
    let group = c.part.ensures.group ∙ c.of_word-left.ensures.group in
    subst (λ n. Extends c.args.out.now.items c.args.run
    (replicate n (run_group (get_or c.args.words.now c.args.first.word 0))) c.push_run.new.words.items
    c.in_ok-run.run') count
    (subst (λ g. Extends c.args.out.now.items c.args.run
    (replicate c.part.result.count g) c.push_run.new.words.items c.in_ok-run.run') group
    c.in_ok-run.ensures.extends)

pub returns-then-last-eq0-clause-extends : goal.returns-then-last-eq0-clause-extends
returns-then-last-eq0-clause-extends c =
    let words = c.args.words.now in
    let first = c.args.first in
    let last = c.args.last in
    let mid = groups (words_between words (first.word + 1) last.word) in
    let run = replicate (run_count (get_or words first.word 0) - first.skipped)
    (run_group (get_or words first.word 0)) in
    let end : mid ≡ mid ++ replicate last.skipped (run_group (get_or words last.word 0)) =
    sym (ap (λ n. mid ++ replicate n (run_group (get_or words last.word 0))) c.if-last-eq0.true ∙ append-nil mid) in
    subst (λ rest. Extends c.args.out.now.items c.args.run
    (run ++ rest) c.push_words.new.words.items c.in_ok-run-2.run') end
    (extends_more _ _ _ _ _ _ _ _ (first_run (goal.at.returns-then-last-eq0-clause-extends c).In_ok-run)
    c.in_ok-run-2.ensures.extends)

-- where the words behind the first run begin
base_is : (words : List ℕ) (run len one : ℕ) → len ≡ length words → one ≡ bool_byte (not (eqb run 0))
    → length (words ++ underway run) ≡ len + one
base_is words run len one long is = omega (arith, length-append words (underway run), long, is, underway_words run)

pub returns-then-last-eq0-clause-lies : goal.returns-then-last-eq0-clause-lies
returns-then-last-eq0-clause-lies c =
    lies_behind c.args.words.now c.args.run c.args.out.now.items c.args.first c.push_run.new.words.items
    c.in_ok-run.run'
    _ (c.args.last.word - (c.args.first.word + 1)) (c.len.result + c.from.result) [] c.requires.first
    (omega (arith, c.requires.order, c.requires.within)) c.requires.first_inside
    (first_run (goal.at.returns-then-last-eq0-clause-lies c).In_ok-run)
    (c.in_ok-run-2.ensures.whole ∙ sym (append-nil _))
    (base_is c.push_run.new.words.items c.in_ok-run.run' c.len.result c.from.result (omega arith) c.from.ensures)
    (omega arith)

-- the groups of the last run that come before the last place, as a word
last_part : (c : After-of_word) → IsPart (get_or c.args.words.now c.args.last.word 0) c.args.last.skipped
    (get_or c.args.words.now c.args.last.word 0 - (c.of_word.result.count - c.args.last.skipped))
last_part c =
    part_is c.args.last.skipped (get_or c.args.words.now c.args.last.word 0) c.of_word.result.count
    (omega (arith, c.if-last-eq0.false)) c.requires.last_inside c.of_word.ensures.count

pub push_apart-requires-clause-apart : goal.push_apart-requires-clause-apart
push_apart-requires-clause-apart c = λ above part_above same.
    let words = c.args.words.now in
    let to = c.args.last.word in
    let word = get_or words to 0 in
    let part = last_part (goal.at.push_apart-requires-clause-apart c).After-of_word in
    let fill : 2 ^ 31 ≤ word = omega (arith, part_above) in
    apart_behind words c.args.first.word to c.in_ok-run.run' c.in_ok-run-2.run' c.requires.runs c.requires.order
    c.requires.within (same_group (goal.at.push_apart-requires-clause-apart c).In_ok-run)
    c.in_ok-run-2.ensures.none c.in_ok-run-2.ensures.last above fill (same ∙ part.group)

pub returns-clause-extends : goal.returns-clause-extends
returns-clause-extends c =
    let words = c.args.words.now in
    let first = c.args.first in
    let last = c.args.last in
    let word = get_or words last.word 0 in
    let mid = groups (words_between words (first.word + 1) last.word) in
    let run = replicate (run_count (get_or words first.word 0) - first.skipped)
    (run_group (get_or words first.word 0)) in
    let here = word - (c.of_word.result.count - last.skipped) in
    let part = last_part (goal.at.returns-clause-extends c).After-of_word in
    let end : replicate (run_count here) (run_group here) ≡ replicate last.skipped (run_group word) =
    ap (λ n. replicate n (run_group here)) part.count_is ∙ ap (replicate last.skipped) part.group in
    subst (λ rest. Extends c.args.out.now.items c.args.run
    (run ++ (mid ++ rest)) c.push_apart.new.words.items c.in_ok-push_apart.field-0) end
    (extends_more _ _ _ _ _ _ _ _ (first_run (goal.at.returns-clause-extends c).In_ok-run)
    (extends_more _ _ _ _ _ _ _ _ c.in_ok-run-2.ensures.extends c.in_ok-push_apart.ensures.extends))

pub returns-clause-lies : goal.returns-clause-lies
returns-clause-lies c =
    let part = get_or c.args.words.now c.args.last.word 0 - (c.of_word.result.count - c.args.last.skipped) in
    lies_behind c.args.words.now c.args.run c.args.out.now.items c.args.first c.push_run.new.words.items
    c.in_ok-run.run'
    _ (c.args.last.word - (c.args.first.word + 1)) (c.len.result + c.from.result) (part ∷ []) c.requires.first
    (omega (arith, c.requires.order, c.requires.within)) c.requires.first_inside
    (first_run (goal.at.returns-clause-lies c).In_ok-run)
    (c.in_ok-push_apart.ensures.whole ∙ ap (λ all. all ++ part ∷ []) c.in_ok-run-2.ensures.whole)
    (base_is c.push_run.new.words.items c.in_ok-run.run' c.len.result c.from.result (omega arith) c.from.ensures)
    (omega arith)
