-- The pages of a list, one behind the other.
use Rattle.std.proofs.Common.{◌≡◌, ℕ, ◌+◌, ◌*◌, ◌^◌, ◌<◌, ◌≤◌, ◌∙◌, Bool, List, length, get_or, sym, ap, subst, arith, inl, inr}
use Rattle.std.specs.Prelude.{All}
use Rattle.std.proofs.lemmas.Bool.{cases_lt}
use Rattle.std.proofs.lemmas.List.{get_or_past}
use Rattle.std.proofs.lemmas.List.Elements.{All-from_get_or}
use Rattle.wah_words.specs.Group.{group_at}
use Rattle.wah_words.specs.Place.{page_count, SpellPages}
use Rattle.fence_window.specs.Window.{IsWindow}
use Rattle.fence_window.proofs.Windows.{group_at-past}

-- the groups are those of the first pages of a list
pub record ArePagesTo (list : List Bool) (pages : ℕ) (groups : List ℕ) : Type 0 where
  pub size : length groups ≡ 128 * pages
  pub each : (k : ℕ) → k < 128 * pages → get_or groups k 0 ≡ group_at list k

-- all pages, as many as the rows take
pub pages_all : (list : List Bool) (pages end rows : ℕ) (groups : List ℕ) → ArePagesTo list pages groups → end ≤ pages
    → pages ≤ end → end ≡ page_count rows → rows ≡ length list → SpellPages groups list
pages_all list pages end rows groups is upto within size same =
    let all : pages ≡ page_count (length list) = omega (arith, ap page_count same) in
    record {
      long = omega (arith, is.size, all);
      each = λ k.
          elim (cases_lt k (128 * pages)) [
            | inl before ↦ is.each k before
            | inr after ↦
                get_or_past groups k 0 (omega (arith, is.size)) ∙ sym (group_at-past list k (omega (arith, all)))
          ];
    }

-- the groups of a page have 31 bits each
pub window_within : (list : List Bool) (number : ℕ) (page : List ℕ) → ((k : ℕ) → group_at list k < 2 ^ 31)
    → length page ≡ 128 → IsWindow list number page → All (λ group. group < 2 ^ 31) page
window_within list number page below long is =
    All-from_get_or (λ group. group < 2 ^ 31) page 0
    (λ i within. subst (λ g. g < 2 ^ 31) (sym (is i (omega arith))) (below (128 * number + i)))
