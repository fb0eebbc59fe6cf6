-- The ends of nodes, in a log and in its fronts. Nothing else in these proofs knows that an entry has one delta.
use Rattle.std.proofs.Common.{◌≡◌, ℕ, ◌<◌, ◌≤◌, List, length, take, sym, ap, ◌∙◌, arith}
use Rattle.std.proofs.lemmas.List.{take-append-le, get_or_append_left, length-take}
use Rattle.cubit_base.specs.declared.delta.Delta.{Delta}
use Rattle.log_core.specs.Chain.{end_at, delta_at, no_delta}
use Rattle.shared_log.specs.Fronts.{IsFront}

-- a front has the log's deltas, ends and nodes
pub take-front : (h f : List Delta) (n k : ℕ) → IsFront h f n → k ≤ length f → take k f ≡ take k h
take-front h f n k i le = sym (take-append-le k f i.begins.0 le) ∙ sym (ap (take k) i.begins.1)

pub delta_at-front : (h f : List Delta) (n k : ℕ) → IsFront h f n → k < length f → delta_at f k ≡ delta_at h k
delta_at-front h f n k i lt =
    sym (get_or_append_left f i.begins.0 no_delta k lt) ∙ sym (ap (λ z. delta_at z k) i.begins.1)

pub end_at-front : (h f : List Delta) (n k : ℕ) → IsFront h f n → k ≤ length f → end_at f k ≡ end_at h k
unfolding end_at
end_at-front h f n k i le = ap (λ (z : List Delta). length z) (take-front h f n k i le)

pub end_at-within : (h : List Delta) (k : ℕ) → end_at h k ≤ length h
unfolding end_at
end_at-within h k = omega (arith, length-take k h)

pub end_at-greater : (h : List Delta) (j k : ℕ) → j < k → j < length h → end_at h j < end_at h k
unfolding end_at
end_at-greater h j k lt within = omega (arith, length-take j h, length-take k h)

pub end_at-last : (h : List Delta) (k : ℕ) → length h ≤ k → end_at h k ≡ length h
unfolding end_at
end_at-last h k le = omega (arith, length-take k h)

-- this one knows it
pub end_at-place : (h : List Delta) (k : ℕ) → k ≤ length h → end_at h k ≡ k
unfolding end_at
end_at-place h k le = omega (arith, length-take k h)

pub end_at-rises : (h : List Delta) (j k : ℕ) → j ≤ k → end_at h j ≤ end_at h k
unfolding end_at
end_at-rises h j k le = omega (arith, length-take j h, length-take k h)
