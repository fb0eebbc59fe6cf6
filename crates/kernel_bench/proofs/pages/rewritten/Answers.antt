use Rattle.std.proofs.Common.{◌≡◌, ℕ, ◌+◌, ◌*◌, ◌/◌, ◌<◌, ◌≤◌, ◌∙◌, Bool, List, length, get_or, take, sym, ap, subst, arith, inl, inr}
use Rattle.std.proofs.lemmas.Result.{IfOk-weaker}
use Rattle.std.proofs.lemmas.Bool.{cases_lt}
use Rattle.std.proofs.lemmas.List.{get_or_past}
use Rattle.wah_words.specs.Group.{group_at, group_count, unpacked}
use Rattle.wah_words.specs.Place.{ArePagesOf, SpellPages, page_count}
use Rattle.kernel_bench.specs.Pages.{AreFirstPages}
use Rattle.kernel_bench.proofs.pages.rewritten.Goals as goal
use Rattle.kernel_bench.proofs.pages.rewritten.Goals.{After-loop-number}

-- the pages up to the last are all groups of the list
spelled : (list : List Bool) (groups : List ℕ) → ((k : ℕ) → group_count (length list) ≤ k → group_at list k ≡ 0)
    → AreFirstPages list (page_count (length list)) groups → SpellPages groups list
spelled list groups past are = record {
  long = are.long;
  each = λ k.
      elim (cases_lt k (128 * page_count (length list))) [
        | inl before ↦ are.each k before
        | inr behind ↦
            get_or_past groups k 0 (omega (arith, are.long))
            ∙ sym (past k (omega arith))
      ];
}

all_pages : (c : After-loop-number) → SpellPages c.loop-number.writer c.args.list.now
all_pages c =
    let end : c.loop-number.number ≡ page_count (length c.args.list.now) = omega (
      arith,
      c.loop-number-test.false,
      c.loop-number.auto.number-end,
      c.div_ceil-pages.ensures,
      c.len-rows.ensures,
      ap length c.wah.ensures,
    ) in
    spelled c.args.list.now c.loop-number.writer (c.groups.ensures.past c.args.list.now)
    (subst (λ (pages : ℕ). AreFirstPages c.args.list.now pages c.loop-number.writer) end c.loop-number.invariant)

pub from_pages-requires : goal.from_pages-requires
from_pages-requires c =
    subst (ArePagesOf c.loop-number.writer) (sym (c.len-rows.ensures ∙ ap length c.wah.ensures))
    (c.pages_of_list.ensures.held c.loop-number.writer c.args.list.now
    (all_pages (goal.at.from_pages-requires c).After-loop-number))

pub returns : goal.returns
returns c =
    let list = c.args.list.now in
    let groups = c.loop-number.writer in
    let whole : take c.len-rows.result (unpacked groups) ≡ list =
    ap (λ rows. take rows (unpacked groups)) (c.len-rows.ensures ∙ ap length c.wah.ensures)
    ∙ c.pages_of_list.ensures.list groups list (all_pages (goal.at.returns c).After-loop-number) in
    IfOk-weaker c.from_pages.result (λ made. made ≡ take c.len-rows.result (unpacked groups)) (λ made. made ≡ list)
    (λ made is. is ∙ whole) c.from_pages.ensures
