-- What walks change of a handle.
use Rattle.std.proofs.Common.{◌≡◌, ℕ, suc, ◌+◌, ◌∙◌, Option, Some, None, refl, sym, ap, arith}
use Rattle.std.specs.Option.{option_map}
use Rattle.commit_log.specs.Handle.{Handle, raised, with_walk}
use Rattle.front_patch.specs.Takes.{raised_by, with_walks}

not-raised : (count : Option ℕ) → count ≡ option_map (raised_by 0) count
unfolding raised_by
not-raised None = refl
not-raised (Some n) = refl

raised-once : (n : ℕ) (count : Option ℕ) →
    option_map raised (option_map (raised_by n) count) ≡ option_map (raised_by (n + 1)) count
unfolding raised_by
raised-once n None = refl
raised-once n (Some count) = let e : n + 1 ≡ suc n = omega arith in ap (λ m. Some (raised_by m count)) (sym e)

-- no walk
pub walks-none : (n : ℕ) (handle : Handle) → n ≡ 0 → handle ≡ with_walks n handle
walks-none n handle none =
    ap (λ count. record handle { walked = count }) (not-raised handle.walked) ∙ ap (λ m. with_walks m handle) (sym none)

-- one entry more
pub walks-more : (n m : ℕ) (handle middle later : Handle) → middle ≡ with_walks n handle → later ≡ with_walk middle →
    m ≡ n + 1 → later ≡ with_walks m handle
walks-more n m handle middle later was is next =
    is ∙ ap with_walk was ∙ ap (λ count. record handle { walked = count }) (raised-once n handle.walked)
    ∙ ap (λ k. with_walks k handle) (sym next)
