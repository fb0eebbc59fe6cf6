-- What a handle that has seen more still knows.
use Rattle.std.proofs.Common.{◌≡◌, ℕ, ◌≤◌, List, length, take, ap, ◌∙◌, arith, length-append}
use Rattle.std.proofs.lemmas.List.{take-append-le}
use Rattle.cubit_base.specs.declared.delta.Delta.{Delta}
use Rattle.commit_log.specs.Handle.{Begins}

pub begins-length : (f h : List Delta) → Begins f h → length f ≤ length h
begins-length f h b = let e = length-append f b.0 in let e' = ap (λ (x : List Delta). length x) b.1 in omega arith

-- a prefix of what was seen stays that prefix
pub take-begins : (f h : List Delta) (n : ℕ) → Begins f h → n ≤ length f → take n h ≡ take n f
take-begins f h n b le = ap (take n) b.1 ∙ take-append-le n f b.0 le

-- a length of what was seen names the same prefix
pub dated-begins : (f h : List Delta) (n : ℕ) → Begins f h → n ≤ length f → (n ≤ length h) × (take n h ≡ take n f)
dated-begins f h n b le = let long = begins-length f h b in (omega arith, take-begins f h n b le)
