-- One row in so many.
use Rattle.std.proofs.Common.{◌≡◌, ℕ, zero, suc, ◌+◌, ◌*◌, ◌<◌, ◌≤◌, ◌∙◌, List, [], ◌∷◌, ◌++◌, length, get_or, refl, sym, ap, subst, arith, inl, inr}
use Rattle.std.specs.Prelude.{All}
use Rattle.std.specs.List.Sorted.{IsStrictlyIncreasing}
use Rattle.std.specs.Int.{div_ceil}
use Rattle.std.proofs.Math.Nat.{mul_comm, mul-suc, mul-le-mul_left}
use Rattle.std.proofs.lemmas.Grind.{div_ceil_times}
use Rattle.std.proofs.lemmas.Bool.{cases_lt}
use Rattle.std.proofs.lemmas.List.{length_push, get_or_append_left, get_or_push}
use Rattle.kernel_bench.specs.Kernel.{multiples, each_of}

add-one : (k : ℕ) → k + 1 ≡ suc k
add-one k = omega arith

suc-le : (k n : ℕ) → k < n → suc k ≤ n
suc-le k n below = below

-- so many multiples
pub length-multiples : (step n : ℕ) → length (multiples step n) ≡ n
length-multiples step zero = refl
length-multiples step (suc n) = omega (arith, length_push (multiples step n) (step * n), length-multiples step n)

-- a multiple by its place
pub get_or-multiples : (step n k d : ℕ) → k < n → get_or (multiples step n) k d ≡ step * k
get_or-multiples step zero k d within = absurd (omega arith)
get_or-multiples step (suc n) k d within =
    elim (cases_lt k n) [
      | inl before ↦
          get_or_append_left (multiples step n) (step * n ∷ []) d k (omega (arith, length-multiples step n))
          ∙ get_or-multiples step n k d before
      | inr past ↦
          let here : length (multiples step n) ≡ k = omega (arith, length-multiples step n) in
          let same : n ≡ k = omega arith in
          get_or_push (multiples step n) (step * n) d k here ∙ ap (λ m. step * m) same
    ]

-- they rise
pub multiples-rise : (step n : ℕ) → 1 ≤ step → IsStrictlyIncreasing (multiples step n)
multiples-rise step n some k within =
    let more : step * (k + 1) ≡ step * k + step = ap (λ m. step * m) (add-one k) ∙ mul-suc step k in
    omega (
      arith,
      some,
      more,
      length-multiples step n,
      get_or-multiples step n k 0 (omega (arith, length-multiples step n)),
      get_or-multiples step n (k + 1) 0 (omega (arith, length-multiples step n)),
    )

-- a multiple below so many rows
multiple-below : (step rows k : ℕ) → 1 ≤ step → k < div_ceil rows step → step * k < rows
multiple-below step rows k some within =
    omega (
      arith,
      mul-suc step k,
      mul-le-mul_left step (suc-le k (div_ceil rows step) within),
      mul_comm step (div_ceil rows step),
      div_ceil_times rows step some,
    )

-- they are rows
pub each_of-below : (step rows : ℕ) → 1 ≤ step → All (λ place. place < rows) (each_of step rows)
each_of-below step rows some k d within =
    let below : k < div_ceil rows step = omega (arith, length-multiples step (div_ceil rows step)) in
    subst (λ (place : ℕ). place < rows) (sym (get_or-multiples step (div_ceil rows step) k d below))
    (multiple-below step rows k some below)
