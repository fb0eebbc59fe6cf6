use Rattle.std.proofs.Common.{◌≡◌, ◌+◌, ◌*◌, ◌<◌, ◌∙◌, [], false, get_or, length, take, sym, ap, subst, arith, inl, inr}
use Rattle.std.proofs.lemmas.Bool.{cases_lt}
use Rattle.std.proofs.lemmas.List.{get_or_append_left, get_or_past, length-append}
use Rattle.wah_words.specs.Group.{group_row, unpacked}
use Rattle.wah_words.specs.Rows.{IsToggled}
use Rattle.wah_words.specs.Place.{ArePagesOf}
use Rattle.fence_window.proofs.Toggled.{IsTurnedTo, Laws, turned_all, turned_on}
use Rattle.fence_window.proofs.fenced.Fenced.toggled_pages.Goals as goal
use Rattle.fence_window.proofs.fenced.Fenced.toggled_pages.Goals.{After-toggles, After-loop-from}

-- the laws of groups and places
laws : (c : After-toggles) → Laws c.args.self.now
laws c = record {
  row = c.groups.ensures.row c.args.self.now;
  parted = c.toggles.ensures.parted;
  absent = c.toggles.ensures.absent;
  zero = λ place within.
      ap (λ g. group_row g place) (sym (c.groups.ensures.past [] 0 (omega arith)))
      ∙ sym (c.groups.ensures.row [] 0 place within)
      ∙ get_or_past [] (31 * 0 + place) false (omega arith);
}

pub toggled_page-requires-clause-from : goal.toggled_page-requires-clause-from
toggled_page-requires-clause-from c = λ k d within.
    let here = c.split_page.result.0.now in
    let after = c.split_page.result.1.now in
    omega (
      arith,
      c.copied_to-page.ensures.behind k d
          (omega (arith, within, ap length c.split_page.ensures.whole, length-append here after)),
      ap (λ places. get_or places k d) c.split_page.ensures.whole,
      get_or_append_left here after d k within,
    )

pub loop-from-preserved : goal.loop-from-preserved
loop-from-preserved c =
    let page = c.copied_to-page.result in
    let groups = c.toggled_page.result in
    let below : page < c.div_ceil-pages.result =
    elim (cases_lt c.loop-from.from page) [
      | inl more ↦
          omega (
            arith,
            c.copied_to-page.ensures.within more,
            c.self.invariant.size,
            ap length c.self.view_is,
            c.requires.longer,
            c.div_ceil-pages.ensures,
          )
      | inr none ↦ omega (arith, none, c.loop-from-test.true)
    ] in
    subst (λ writer. IsTurnedTo c.args.self.now c.args.places.now c.split_page.result.1.now writer (page + 1)
    c.div_ceil-pages.result) (sym c.in_ok-push_page.ensures.ok)
    (turned_on c.args.self.now c.args.places.now c.loop-from.rest.now c.loop-from.writer c.loop-from.from
    c.div_ceil-pages.result page c.in_ok-writer-2.writer c.split_page.result.0.now c.split_page.result.1.now groups
    (laws (goal.at.loop-from-preserved c).After-toggles) c.loop-from.invariant below c.copied_to-page.ensures.from
    c.in_ok-writer-2.ensures c.split_page.ensures.whole c.split_page.ensures.rising c.copied_to-page.ensures.behind
    c.split_page.ensures.here c.split_page.ensures.behind (omega arith) c.toggled_page.ensures.rows)

-- all rows are turned
turned : (c : After-loop-from) → Laws c.args.self.now → ArePagesOf c.loop-from.writer c.args.rows
    × (length (take c.args.rows (unpacked c.loop-from.writer)) ≡ c.args.rows)
    × IsToggled c.args.self.now c.args.places.now (take c.args.rows (unpacked c.loop-from.writer))
turned c known =
    let is = c.loop-from.invariant in
    let count = c.div_ceil-pages.ensures in
    c.toggles.ensures.pages c.args.self.now c.args.places.now c.loop-from.writer c.args.rows c.requires.longer
    c.requires.below (omega (arith, is.size, is.most, c.loop-from-test.false, count))
    (turned_all c.args.self.now c.args.places.now c.loop-from.rest.now c.loop-from.writer c.loop-from.from
    c.div_ceil-pages.result c.args.rows known is (omega (arith, c.loop-from-test.false)) (omega (arith, count))
    c.requires.longer c.requires.below (c.rows_of_groups.ensures.row c.loop-from.writer))

pub from_pages-requires : goal.from_pages-requires
from_pages-requires c =
    (turned (goal.at.from_pages-requires c).After-loop-from (laws (goal.at.from_pages-requires c).After-toggles)).0

pub returns-clause-length : goal.returns-clause-length
returns-clause-length c =
    ap length c.in_ok-made.ensures
    ∙ (turned (goal.at.returns-clause-length c).After-loop-from
    (laws (goal.at.returns-clause-length c).After-toggles)).1

pub returns-clause-rows : goal.returns-clause-rows
returns-clause-rows c =
    subst (IsToggled c.args.self.now c.args.places.now) (sym c.in_ok-made.ensures)
    (turned (goal.at.returns-clause-rows c).After-loop-from
    (laws (goal.at.returns-clause-rows c).After-toggles)).2
