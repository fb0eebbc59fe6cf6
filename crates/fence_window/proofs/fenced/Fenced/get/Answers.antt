use Rattle.std.proofs.Common.{◌≡◌, ◌+◌, ◌*◌, ◌/◌, ◌%◌, ◌<◌, ◌^◌, ◌∙◌, sym, ap, subst, arith, length, get_or, eqb, ℕ}
use Rattle.std.specs.Prelude.{Some}
use Rattle.std.proofs.lemmas.Nat.{and_mask}
use Rattle.wah_words.specs.Word.{groups, run_group}
use Rattle.wah_words.specs.Place.{IsAfter}
use Rattle.wah_words.specs.Group.{group_at}
use Rattle.fence_window.proofs.Windows.{row_from_group}
use Rattle.fence_window.proofs.Fences.{fence_at, after_more, within_from_after, group_from_after}
use Rattle.fence_window.proofs.fenced.Fenced.get.Goals as goal
use Rattle.fence_window.proofs.fenced.Fenced.get.Goals.{After-index-fence, After-advanced-place}

-- the fence stands at the first group of the row's page
fence : (c : After-index-fence)
    → IsAfter c.words-words.result.now (128 * (c.args.row / 31 / 128)) c.index-fence.result.now
fence c =
    fence_at c.words-words.result.now c.self.inside.wah c.self.inside.fences.items
    (c.args.row / 31 / 128) c.index-fence.result.now c.self.invariant c.type_inv.words
    c.words-words.ensures.spelling
    (omega (arith, c.self.invariant.size, ap length c.self.view_is, c.requires)) c.index-fence.ensures

some : (c : After-index-fence) → c.args.row / 31 < length (groups c.words-words.result.now)
some c = omega (arith, c.words-words.ensures.spelling.canonical.size, ap length c.self.view_is, c.requires)

-- the place is that of the row's group
place : (c : After-advanced-place) → IsAfter c.words-words.result.now (c.args.row / 31) c.advanced-place.result
place c =
    let words = c.words-words.result.now in
    let group = c.args.row / 31 in
    let P : ℕ → Type 0 = λ n. IsAfter words n c.advanced-place.result in
    let whole : 128 * (group / 128) + group % 128 ≡ group = omega arith in
    subst P whole
    (after_more words (128 * (group / 128)) (group % 128) c.index-fence.result.now c.advanced-place.result
    (fence (goal.at.offset_bounds-words-place c).After-index-fence) c.advanced-place.ensures.rest
    c.advanced-place.ensures.inside c.advanced-place.ensures.few)

pub advanced-place-requires : goal.advanced-place-requires
advanced-place-requires c = omega (arith, (fence (goal.at.advanced-place-requires c).After-index-fence).few)

pub bounds-words-place : goal.bounds-words-place
bounds-words-place c =
    within_from_after c.words-words.result.now (c.args.row / 31) c.advanced-place.result
    (place (goal.at.bounds-words-place c).After-advanced-place)
    (some (goal.at.bounds-words-place c).After-index-fence)

pub offset_bounds-words-place : goal.offset_bounds-words-place
offset_bounds-words-place c =
    let within =
    within_from_after c.words-words.result.now (c.args.row / 31) c.advanced-place.result (place c)
    (some (goal.at.offset_bounds-words-place c).After-index-fence) in
    omega (arith, c.words-words.type_inv)

pub returns : goal.returns
returns c =
    let words = c.words-words.result.now in
    let group = c.args.row / 31 in
    let read : run_group (get_or words c.advanced-place.result.word 0) ≡ get_or (groups words) group 0 =
    group_from_after words group c.advanced-place.result (place (goal.at.returns c).After-advanced-place)
    (some (goal.at.returns c).After-index-fence) c.advanced-place.ensures.inside in
    let list : c.self.inside.wah ≡ c.args.self.now = c.self.view_is in
    let is : c.of_word.result.group ≡ group_at c.args.self.now group =
    c.of_word.ensures.group ∙ read ∙ c.words-words.ensures.each_group group ∙ ap (λ rows. group_at rows group) list in
    row_from_group c.args.self.now c.args.row c.of_word.result.group c.requires is
    ∙ ap (λ n. Some (eqb n 1)) (sym (and_mask (c.of_word.result.group / 2 ^ (c.args.row % 31)) 1))
