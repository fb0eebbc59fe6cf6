use Rattle.std.proofs.Common.{◌≡◌, ◌+◌, ◌-◌, ◌*◌, ◌++◌, ◌∙◌, drop, length, take, sym, ap, subst, arith}
use Rattle.std.proofs.lemmas.List.{length-drop, length-take-le}
use Rattle.wah_words.specs.Group.{group_at}
use Rattle.wah_words.specs.Place.{page_count}
use Rattle.wah_words.specs.Stretch.{AreFencesFrom, pages_from}
use Rattle.fence_window.specs.Turned.{IsCopied}
use Rattle.fence_window.proofs.Fences.{words_from_fits}
use Rattle.fence_window.proofs.Toggled.{copied_are, fences_part}
use Rattle.fence_window.proofs.fenced.Fenced.copied_pages.Goals as goal

pub push_pages-requires-clause-room : goal.push_pages-requires-clause-room
push_pages-requires-clause-room c =
    omega (arith, c.words-words.ensures.spelling.canonical.size, ap length c.self.view_is, c.requires.few)

pub push_pages-requires-clause-fences : goal.push_pages-requires-clause-fences
push_pages-requires-clause-fences c =
    let words = c.words-words.result.now in
    let from = c.pages-from.result in
    let count = c.args.page + 1 - from in
    let written : length c.args.writer ≡ 128 * from = c.pages-from.ensures in
    let below = c.requires.within (omega (arith, written, c.if-from-page.false)) in
    subst (λ fences. AreFencesFrom words (length c.args.writer) (take count (drop from fences)))
    (sym c.deref.ensures.value)
    (fences_part words c.self.inside.fences.items (length c.args.writer) from count
    (c.self.invariant.in_words words (words_from_fits words c.type_inv.words) c.words-words.ensures.spelling) written
    (omega (arith, c.if-from-page.false, below, c.self.invariant.size, ap length c.self.view_is)))

pub returns : goal.returns
returns c =
    let words = c.words-words.result.now in
    let writer = c.args.writer in
    let from = c.pages-from.result in
    let count = c.args.page + 1 - from in
    let part = take count (drop from c.deref.result.now) in
    let written : length writer ≡ 128 * from = c.pages-from.ensures in
    let below = c.requires.within (omega (arith, written, c.if-from-page.false)) in
    let fences : length c.deref.result.now ≡ page_count (length c.args.self.now) =
    ap length c.deref.ensures.value ∙ c.self.invariant.size ∙ ap (λ list. page_count (length list)) c.self.view_is in
    let long : length part - 1 ≡ c.args.page - from =
    omega (
      arith,
      c.if-from-page.false,
      below,
      fences,
      length-take-le count (drop from c.deref.result.now)
          (omega (arith, c.if-from-page.false, below, fences, length-drop from c.deref.result.now)),
    ) in
    subst (IsCopied c.args.self.now writer c.args.page)
    (sym (c.in_ok-made.ensures ∙ ap (λ n. writer ++ pages_from words (length writer) n) long))
    (copied_are c.args.self.now words writer from (c.args.page - from) c.args.page written
    (omega (arith, c.if-from-page.false))
    (omega (arith, below, c.words-words.ensures.spelling.canonical.size, ap length c.self.view_is))
    (λ k. c.words-words.ensures.each_group k ∙ ap (λ list. group_at list k) c.self.view_is))
