use Rattle.std.proofs.Common.{◌≡◌, ◌+◌, ◌*◌, ◌++◌, ◌∙◌, map, sym, ap, subst, arith, length}
use Rattle.wah_words.specs.Word.{groups}
use Rattle.wah_words.specs.Pages.{ArePaged, underway}
use Rattle.wah_words.specs.Stretch.{groups_between, moved, pages_from}
use Rattle.wah_words.proofs.Copies.{groups-extended, length-extended}
use Rattle.wah_words.proofs.Stretched.{AreCopied, between_length, between_pages, copied_start, copied_among, copied_order, paged_copied}
use Rattle.wah_words.proofs.pages.PageWriter.push_stretch.Goals as goal
use Rattle.wah_words.proofs.pages.PageWriter.push_stretch.Goals.{After-self}

pub copy-requires-clause-order : goal.copy-requires-clause-order
copy-requires-clause-order c =
    copied_order c.args.words.now (length c.args.self) (length c.args.others.now) c.args.first c.args.last
    c.requires.first c.requires.first_within c.requires.first_inside c.requires.short c.requires.last
    c.requires.last_within c.requires.last_inside

-- what is copied
copied : (c : After-self) → AreCopied c.args.words.now
    (length (groups (c.self.inside.words.items ++ underway c.self.inside.run))) c.args.first c.args.last
    c.args.others.now
copied c =
    subst (λ gs. AreCopied c.args.words.now (length gs) c.args.first c.args.last c.args.others.now) (sym c.self.view_is)
    (record {
      places = record {
        after_first = c.requires.first;
        after_last = c.requires.last;
        order = copied_order c.args.words.now (length c.args.self) (length c.args.others.now) c.args.first c.args.last
            c.requires.first c.requires.first_within c.requires.first_inside c.requires.short c.requires.last
            c.requires.last_within c.requires.last_inside;
        within = c.requires.last_within;
        first_inside = c.requires.first_inside;
        last_inside = c.requires.last_inside;
      };
      starts = c.requires.others;
      short = c.requires.short;
    })

pub push_moved-requires-clause-behind : goal.push_moved-requires-clause-behind
push_moved-requires-clause-behind c = λ k d within.
    (copied_among _ _ _ _ _ k d (copied (goal.at.push_moved-requires-clause-behind c).After-self) within).low

pub push_moved-requires-clause-room : goal.push_moved-requires-clause-room
push_moved-requires-clause-room c = λ k d within.
    let are = copied (goal.at.push_moved-requires-clause-room c).After-self in
    let words = c.args.words.now in
    let old = c.self.inside.words.items in
    let run = c.self.inside.run in
    let new = c.copy.new.out.items in
    let next = c.in_ok-base.next in
    let from = length (groups (old ++ underway run)) in
    let to = from + 128 * (length c.args.others.now + 1) in
    let page = groups_between words c.args.first c.args.last in
    let size : length (groups (new ++ underway next)) ≡ to =
    length-extended old run page new next c.in_ok-base.ensures.extends
    ∙ between_length words from to c.args.first c.args.last are.places in
    let start = copied_start words from c.args.first c.args.last c.args.others.now k d new next c.in_ok-base.base are
    within c.in_ok-base.ensures.lies size in
    omega (arith, start.within)

pub invariant_of-self : goal.invariant_of-self
invariant_of-self c =
    let start = c.start_behind-start in
    subst (ArePaged c.copy.new.out.items c.in_ok-base.next)
    (sym (c.in_ok-push_moved.ensures
    ∙ ap (λ front. front ++ map (moved (c.args.first.word + 1) c.in_ok-base.base) c.args.others.now)
    c.in_ok-push.ensures.items))
    (paged_copied c.self.inside.words.items c.self.inside.run c.self.inside.starts.items c.args.words.now c.args.first
    c.args.last c.args.others.now c.copy.new.out.items c.in_ok-base.next c.in_ok-base.base start.result c.self.invariant
    (copied (goal.at.invariant_of-self c).After-self) c.in_ok-base.ensures.extends c.in_ok-base.ensures.lies
    (start.ensures.word ∙ ap length c.deref.ensures.value)
    start.ensures.skipped)

pub returns : goal.returns
returns c =
    let words = c.args.words.now in
    let pages = length c.args.others.now + 1 in
    let before = groups (c.self.inside.words.items ++ underway c.self.inside.run) in
    groups-extended _ _ _ _ _ c.in_ok-base.ensures.extends
    ∙ ap (λ page. before ++ page)
    (between_pages words (length before) pages c.args.first c.args.last (copied (goal.at.returns c).After-self).places)
    ∙ ap (λ gs. gs ++ pages_from words (length gs) pages) c.self.view_is
