use Rattle.std.proofs.Common.{◌≡◌, ℕ, List, ◌+◌, ◌-◌, ◌*◌, ◌≤◌, ◌++◌, ◌∙◌, drop, length, replicate, take, refl, sym, ap, subst, arith}
use Rattle.std.specs.Prelude.{IfOk}
use Rattle.std.proofs.lemmas.List.{append_assoc, length-append, length-drop, length-take-le}
use Rattle.wah_words.specs.Word.{groups}
use Rattle.wah_words.specs.Stretch.{pages_from}
use Rattle.wah_words.proofs.Copies.{place_within}
use Rattle.wah_words.proofs.Stretched.{pages_more, pages_one, length-pages}
use Rattle.wah_words.proofs.pages.PageWriter.push_pages.Goals as goal

pub push_stretch-requires-clause-first_within : goal.push_stretch-requires-clause-first_within
push_stretch-requires-clause-first_within c =
    let at = c.loop-at.at in
    let before = length c.args.self + 128 * at in
    let after = c.settled-first.ensures.after before (c.requires.fences at _ (omega arith)) in
    place_within c.args.words.now before c.settled-first.result after (omega (arith, c.requires.within))

pub push_stretch-requires-clause-last_within : goal.push_stretch-requires-clause-last_within
push_stretch-requires-clause-last_within c =
    let end = length c.args.fences.now - 1 in
    let before = length c.args.self + 128 * end in
    let after = c.settled-last.ensures.after before (c.requires.fences end _ (omega (arith, c.requires.some))) in
    place_within c.args.words.now before c.settled-last.result after c.requires.within

-- some pages, and the pages behind them
joined : (self words writer : List ℕ) (at more end : ℕ) → writer ≡ self ++ pages_from words (length self) at
    → at + more ≡ end → length self + 128 * at ≤ length (groups words)
    → writer ++ pages_from words (length writer) more ≡ self ++ pages_from words (length self) end
joined self words writer at more end is all within =
    let front = pages_from words (length self) at in
    let long : length writer ≡ length self + 128 * at =
    omega (arith, ap length is, length-append self front, length-pages words (length self) at within) in
    ap (λ n. writer ++ pages_from words n more) long
    ∙ ap (λ list. list ++ pages_from words (length self + 128 * at) more) is
    ∙ append_assoc self front (pages_from words (length self + 128 * at) more)
    ∙ ap (λ rest. self ++ rest) (sym (pages_more words (length self) at more))
    ∙ ap (λ n. self ++ pages_from words (length self) n) all

pub returns-then-run-first : goal.returns-then-run-first
returns-then-run-first c =
    let words = c.args.words.now in
    let at = c.loop-at.at in
    let fences = c.args.fences.now in
    let end = length fences - 1 in
    let others = take (end - (at + 1)) (drop (at + 1) fences) in
    let long : length others ≡ end - (at + 1) =
    length-take-le (end - (at + 1)) (drop (at + 1) fences) (omega (arith, length-drop (at + 1) fences)) in
    subst (λ list. IfOk c.push_stretch.result (λ writer. writer ≡ list))
    (joined c.args.self words c.loop-at.writer at (length others + 1) end c.loop-at.invariant (omega (arith, long))
    (omega (arith, c.requires.within)))
    c.push_stretch.ensures

pub loop-at-preserved : goal.loop-at-preserved
loop-at-preserved c =
    let words = c.args.words.now in
    let start = length c.args.self in
    let at = c.loop-at.at in
    let before = start + 128 * at in
    let after = c.settled-first.ensures.after before (c.requires.fences at _ (omega arith)) in
    let within = place_within words before c.settled-first.result after (omega (arith, c.requires.within)) in
    let here : start + 128 * at ≤ length (groups words) = omega (arith, c.requires.within) in
    let long : length c.loop-at.writer ≡ before =
    omega (
      arith,
      ap length c.loop-at.invariant,
      length-append c.args.self (pages_from words start at),
      length-pages words start at here,
    ) in
    let page : replicate 128 c.of_word-run.result.group ≡ pages_from words (length c.loop-at.writer) 1 =
    ap (replicate 128) c.of_word-run.ensures.group
    ∙ sym (pages_one words before c.settled-first.result after within
    (omega (arith, c.if-run-first.false, c.of_word-run.ensures.count)))
    ∙ ap (λ n. pages_from words n 1) (sym long) in
    c.in_ok-writer.ensures
    ∙ ap (λ rest. c.loop-at.writer ++ rest) page
    ∙ joined c.args.self words c.loop-at.writer at 1 (at + 1) c.loop-at.invariant refl here
