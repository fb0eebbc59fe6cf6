use Rattle.std.proofs.Common.{◌≡◌, ◌∙◌, ◌++◌, ◌≤◌, ◌^◌, [], ◌∷◌, inl, inr, sym, ap, arith, refl, subst, length, get_or}
use Rattle.std.proofs.lemmas.List.{append_assoc, length_push, nil_from_length}
use Rattle.std.proofs.lemmas.Bool.{cases_lt}
use Rattle.wah_words.specs.Word.{groups}
use Rattle.wah_words.specs.Canonical.{AreApart, AreRuns}
use Rattle.wah_words.specs.Pages.{underway, Writes}
use Rattle.wah_words.specs.Stretch.{Extends}
use Rattle.wah_words.proofs.Written.{underway-some}
use Rattle.wah_words.proofs.Stretches.{extends_none, writes_words, writes_words_fill, fill_of_last}
use Rattle.wah_words.proofs.stretch.push_words.Goals as goal
use Rattle.wah_words.proofs.stretch.push_words.Goals.{In-Some}

pub returns-in_default-clause-extends : goal.returns-in_default-clause-extends
returns-in_default-clause-extends c =
    let none : c.args.more.now ≡ [] = nil_from_length c.args.more.now c.in_default.ensures.cases in
    subst (λ more. Extends c.args.words.now.items c.args.run (groups more) c.args.words.now.items c.args.run) (sym none)
    (extends_none c.args.words.now.items c.args.run c.requires.fill)

parted : (c : In-Some) → c.args.more.now ≡ c.in-Some.front.now ++ c.in-Some.last.now ∷ []
parted c = c.in-Some.ensures.cases.0

apart : (c : In-Some) → AreApart c.args.run (get_or (c.in-Some.front.now ++ c.in-Some.last.now ∷ []) 0 0)
apart c = subst (λ more. AreApart c.args.run (get_or more 0 0)) (parted c)
    (c.requires.apart (omega (arith, ap length (parted c), length_push c.in-Some.front.now c.in-Some.last.now)))

pub returns-then-is_literal-clause-extends : goal.returns-then-is_literal-clause-extends
returns-then-is_literal-clause-extends c =
    let run = c.args.run in
    let front = c.in-Some.front.now in
    let last = c.in-Some.last.now in
    let w = (goal.at.returns-then-is_literal-clause-extends c).In-Some in
    record {
      written = (underway run ++ front) ++ last ∷ [];
      is =
          c.in_ok-push.ensures.items
          ∙ ap (λ all. all ++ last ∷ [])
          (c.in_ok-extend_from_slice.ensures.items
          ∙ ap (λ all. all ++ front) c.in_ok-close.ensures
          ∙ append_assoc c.args.words.now.items (underway run) front)
          ∙ append_assoc c.args.words.now.items (underway run ++ front) (last ∷ []);
      writes = subst (λ more. Writes run (groups more) ((underway run ++ front) ++ last ∷ []) 0) (sym (parted w))
          (writes_words run front last (subst AreRuns (parted w) c.requires.runs) (c.if-is_literal.ensures.0 refl)
          (apart w));
      fill = λ none. absurd (omega arith);
    }

fill : (c : goal.Else-is_literal) → 2 ^ 31 ≤ c.in-Some.last.now
fill c =
    elim (cases_lt c.in-Some.last.now (2 ^ 31)) [
      | inl low ↦ absurd (let literal = c.if-is_literal.ensures.1 low in cc)
      | inr high ↦ high
    ]

pub returns-clause-whole : goal.returns-clause-whole
returns-clause-whole c =
    let last = c.in-Some.last.now in
    let before = c.args.words.now.items ++ underway c.args.run in
    ap (λ front. front ++ underway last) (c.in_ok-extend_from_slice.ensures.items
    ∙ ap (λ all. all ++ c.in-Some.front.now) c.in_ok-close.ensures)
    ∙ ap (λ end. (before ++ c.in-Some.front.now) ++ end) (underway-some last (omega (arith, fill c)))
    ∙ append_assoc before c.in-Some.front.now (last ∷ [])
    ∙ ap (λ more. before ++ more) (sym (parted (goal.at.returns-clause-whole c).In-Some))

pub returns-clause-extends : goal.returns-clause-extends
returns-clause-extends c =
    let run = c.args.run in
    let front = c.in-Some.front.now in
    let last = c.in-Some.last.now in
    let w = (goal.at.returns-clause-extends c).In-Some in
    let runs = subst AreRuns (parted w) c.requires.runs in
    let above = fill c in
    record {
      written = underway run ++ front;
      is =
          c.in_ok-extend_from_slice.ensures.items
          ∙ ap (λ all. all ++ front) c.in_ok-close.ensures
          ∙ append_assoc c.args.words.now.items (underway run) front;
      writes = subst (λ more. Writes run (groups more) (underway run ++ front) last) (sym (parted w))
          (writes_words_fill run front last runs above (apart w));
      fill = fill_of_last front last runs above;
    }
