-- Numbers with places, and the first and the last place of each number.
use Rattle.std.specs.Prelude.{ℕ, ◌≡◌, ◌+◌, ◌*◌, ◌/◌, ◌%◌, ◌^◌, ◌<◌, ◌≤◌, All, Contains, List, map, slice_get, Option, Some}
use Rattle.std.specs.List.Sorted.{IsStrictlyIncreasing}
use Rattle.cubit_base.specs.declared.delta.Delta.{Delta}
use Rattle.unit_version.specs.declared.changes.span.Span.{Span}

-- a number and its place in one number, which stand by the first and then by the second
abbrev pub tag_of : ℕ → ℕ → ℕ
tag_of number place = number * 2 ^ 32 + place

-- the tags of the deltas that have a number
pub record AreTags (number_of : Delta → Option ℕ) (deltas : List Delta) (tags : List ℕ) : Type 0 where
  pub every : (place number : ℕ) (d : Delta) → slice_get deltas place ≡ Some d → number_of d ≡ Some number
      → Contains tags (tag_of number place)
  pub only : (tag : ℕ) → Contains tags tag
      → (d : Delta) × (slice_get deltas (tag % 2 ^ 32) ≡ Some d) × (number_of d ≡ Some (tag / 2 ^ 32))

-- the tags have the number at the span's first and last place, and at none before or behind them
pub record IsSpan (tags : List ℕ) (span : Span) : Type 0 where
  pub first_low : span.first < 2 ^ 32
  pub last_low : span.last < 2 ^ 32
  pub first : Contains tags (tag_of span.number span.first)
  pub last : Contains tags (tag_of span.number span.last)
  pub between : (place : ℕ) → place < 2 ^ 32 → Contains tags (tag_of span.number place)
      → (span.first ≤ place) × (place ≤ span.last)

-- in rising order the numbers of tags, each with its span
pub record AreSpans (tags : List ℕ) (spans : List Span) : Type 0 where
  pub rising : IsStrictlyIncreasing (map (λ s. s.number) spans)
  pub each : All (IsSpan tags) spans
  pub every : (tag : ℕ) → Contains tags tag → Contains (map (λ s. s.number) spans) (tag / 2 ^ 32)
