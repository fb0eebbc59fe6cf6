use Rattle.std.proofs.Common.{◌≡◌, ◌+◌, ◌*◌, refl, sym, ap, subst, arith, length, List, ℕ}
use Rattle.std.proofs.lemmas.List.{length_push}
use Rattle.wah_words.specs.declared.place.Place.{Place}
use Rattle.wah_words.specs.Place.{AreFences, IsAfter}
use Rattle.fence_window.proofs.Fences.{AreFences-none, AreFences-push, HasFences-of, after_none, after_more, words_from_fits}
use Rattle.fence_window.proofs.fenced.fences_of.Goals as goal

pub loop-page-init : goal.loop-page-init
loop-page-init c = record {
  fits = words_from_fits c.words-words.result.now c.type_inv.words;
  size = ap length c.in_ok-fences.ensures.items;
  so_far = AreFences-none c.words-words.result.now c.in_ok-fences.fences.items c.in_ok-fences.ensures.items;
  next = after_none c.words-words.result.now (record { word = 0; skipped = 0 }) refl refl;
}

pub advanced-place-requires : goal.advanced-place-requires
advanced-place-requires c = omega (arith, c.loop-page.invariant.next.few)

pub loop-page-preserved : goal.loop-page-preserved
loop-page-preserved c =
    let words = c.words-words.result.now in
    let page = c.loop-page._page in
    let fences = c.loop-page.fences.items in
    let P : List Place → Type 0 = λ places. AreFences words places in
    let Q : ℕ → Type 0 = λ n. IsAfter words n c.advanced-place.result in
    let more : 128 * page + 128 ≡ 128 * (page + 1) = omega arith in
    record {
      fits = c.loop-page.invariant.fits;
      size = omega (
        arith,
        ap length c.in_ok-push.ensures.items,
        length_push fences c.loop-page.place,
        c.loop-page.invariant.size,
      );
      so_far = subst P (sym c.in_ok-push.ensures.items)
          (AreFences-push words page fences c.loop-page.place c.loop-page.invariant.size c.loop-page.invariant.so_far
          c.loop-page.invariant.next);
      next = subst Q more
          (after_more words (128 * page) 128 c.loop-page.place c.advanced-place.result c.loop-page.invariant.next
          c.advanced-place.ensures.rest c.advanced-place.ensures.inside c.advanced-place.ensures.few);
    }

pub returns : goal.returns
returns c =
    let words = c.words-words.result.now in
    HasFences-of words c.args.wah.now c.loop-page.fences.items
    (λ others within spells. c.one_spelling.ensures.words words others c.args.wah.now c.loop-page.invariant.fits within
    c.words-words.ensures.spelling spells)
    (omega (arith, c.loop-page.invariant.size, c.len.ensures, c.div_ceil-pages.ensures)) c.loop-page.invariant.so_far
