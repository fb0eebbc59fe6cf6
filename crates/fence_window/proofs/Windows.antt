-- Groups and rows of a list.
use Rattle.std.proofs.Common.{◌≡◌, ℕ, ◌*◌, ◌/◌, ◌%◌, ◌^◌, ◌<◌, ◌≤◌, ◌+◌, ◌∙◌, Bool, true, false, cond, eqb, List, length, get_or, take, drop, refl, sym, ap, arith}
use Rattle.std.specs.Prelude.{Some, slice_get}
use Rattle.std.proofs.lemmas.List.{drop_all, get_or-take, get_or-drop}
use Rattle.std.proofs.lemmas.Option.{slice_get-get_or}
use Rattle.std.proofs.lemmas.Simd.{bit_mask_l}
use lib.Lanes.{mask_l}
use Rattle.wah_words.specs.Group.{group_at}

-- past the last row each group is 0
pub group_at-past : (list : List Bool) (k : ℕ) → length list ≤ 31 * k → group_at list k ≡ 0
group_at-past list k past = ap (λ rest. mask_l (take 31 rest)) (drop_all (31 * k) list past)

-- ---- rows

test-cond : (row : Bool) → eqb (cond row 1 0) 1 ≡ row
test-cond true = refl
test-cond false = refl

-- a row is a bit of its group
pub row_from_group : (list : List Bool) (row group : ℕ) → row < length list → group ≡ group_at list (row / 31)
    → slice_get list row ≡ Some (eqb (group / 2 ^ (row % 31) % 2) 1)
row_from_group list row group within is =
    let place : 31 * (row / 31) + row % 31 ≡ row = omega arith in
    let chunk = take 31 (drop (31 * (row / 31)) list) in
    let bit : get_or chunk (row % 31) false ≡ get_or list row false =
    get_or-take 31 (drop (31 * (row / 31)) list) (row % 31) false (omega arith)
    ∙ get_or-drop (31 * (row / 31)) list (row % 31) false
    ∙ ap (λ k. get_or list k false) place in
    slice_get-get_or list row false within
    ∙ ap Some (sym (ap (λ g. eqb (g / 2 ^ (row % 31) % 2) 1) is
    ∙ ap (λ n. eqb n 1) (bit_mask_l chunk (row % 31))
    ∙ test-cond (get_or chunk (row % 31) false)
    ∙ bit))
