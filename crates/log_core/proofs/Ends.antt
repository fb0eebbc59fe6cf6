-- The ends of nodes. Nothing else in these proofs knows that an entry has one delta.
use Rattle.std.proofs.Common.{◌≡◌, ℕ, ◌+◌, ◌<◌, ◌≤◌, true, cond, List, [], ◌∷◌, ◌++◌, length, take, min, refl, ap, arith, length-append}
use Rattle.std.specs.List.{count_by}
use Rattle.std.proofs.lemmas.List.{length-take, length-take-le, take-append-le, get_or_append_left, get_or_at}
use Rattle.std.proofs.lemmas.List.Sums.{count_by_more_yes, sum_by-take-le}
use Rattle.cubit_base.specs.declared.delta.Delta.{Delta}
use Rattle.log_core.specs.Chain.{delta_at, end_at, is_by, no_delta}

pub end_at-within : (h : List Delta) (k : ℕ) → end_at h k ≤ length h
unfolding end_at
end_at-within h k = omega (arith, length-take k h)

pub end_at-rising : (h : List Delta) (j k : ℕ) → j ≤ k → end_at h j ≤ end_at h k
unfolding end_at
end_at-rising h j k le = omega (arith, length-take j h, length-take k h)

pub end_at-greater : (h : List Delta) (j k : ℕ) → j < k → j < length h → end_at h j < end_at h k
unfolding end_at
end_at-greater h j k lt within = omega (arith, length-take j h, length-take k h)

pub end_at-last : (h : List Delta) (k : ℕ) → length h ≤ k → end_at h k ≡ length h
unfolding end_at
end_at-last h k le = omega (arith, length-take k h)

-- each entry has one delta
pub end_at_least : (h : List Delta) (k : ℕ) → end_at h k ≡ min k (length h)
unfolding end_at
end_at_least h k = omega (arith, length-take k h)

pub end_at-place : (h : List Delta) (k : ℕ) → k ≤ length h → end_at h k ≡ k
unfolding end_at
end_at-place h k le = length-take-le k h le

-- what an append leaves of the ends before it
pub end_at-kept : (h : List Delta) (d : Delta) (k : ℕ) → k ≤ length h → end_at (h ++ d ∷ []) k ≡ end_at h k
unfolding end_at
end_at-kept h d k le = ap (λ (x : List Delta). length x) (take-append-le k h (d ∷ []) le)

pub length-appended : (h : List Delta) (d : Delta) → length (h ++ d ∷ []) ≡ length h + 1
length-appended h d = length-append h (d ∷ [])

pub end_at-grows : (h : List Delta) (d : Delta) (k : ℕ) → end_at h k ≤ end_at (h ++ d ∷ []) k
unfolding end_at
end_at-grows h d k = omega (arith, length-take k h, length-take k (h ++ d ∷ []), length-appended h d)

-- the end of the appended entry
pub end_at-appended : (h : List Delta) (d : Delta) → end_at (h ++ d ∷ []) (length h + 1) ≡ end_at h (length h) + 1
unfolding end_at
end_at-appended h d =
    omega (arith, length-take (length h) h, length-take (length h + 1) (h ++ d ∷ []), length-appended h d)

pub delta_at-kept : (h : List Delta) (d : Delta) (k : ℕ) → k < length h → delta_at (h ++ d ∷ []) k ≡ delta_at h k
delta_at-kept h d k lt = get_or_append_left h (d ∷ []) no_delta k lt

pub delta_at-appended : (h : List Delta) (d : Delta) → delta_at (h ++ d ∷ []) (length h) ≡ d
delta_at-appended h d = get_or_at h d [] no_delta (length h) refl

-- before a delta its author has fewer than in all
pub count-before : (h : List Delta) (p k : ℕ) → k < length h → is_by p (delta_at h k) ≡ true →
    count_by (is_by p) (take k h) < count_by (is_by p) h
count-before h p k lt own =
    omega (
      arith,
      count_by_more_yes (is_by p) h k no_delta lt own,
      sum_by-take-le (λ (d : Delta). cond (is_by p d) 1 0) h (k + 1),
    )
