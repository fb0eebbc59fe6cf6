-- The place of a number among rising ones.
use Rattle.std.specs.Prelude.{◌≡◌, ◌≢◌, ℕ, ◌+◌, ◌-◌, ◌*◌, ◌/◌, ◌<◌, ◌≤◌, List, length, slice_index, Option, MatchOption}

-- every 16th number
pub record AreTops (numbers tops : List ℕ) : Type 0 where
  pub long : length tops ≡ (length numbers + 15) / 16
  pub each : (i : ℕ) → i < length tops → slice_index tops i ≡ slice_index numbers (16 * i)

-- the place of the number, or none where it is not there
abbrev pub FindsPlace : List ℕ → ℕ → Option ℕ → Type 0
FindsPlace numbers n found =
    MatchOption found ((i : ℕ) → i < length numbers → slice_index numbers i ≢ n)
    (λ i. (i < length numbers) × (slice_index numbers i ≡ n))

-- the number before a place is not above n, where there is one
abbrev pub IsUpTo : List ℕ → ℕ → ℕ → Type 0
IsUpTo numbers n place = 0 < place → slice_index numbers (place - 1) ≤ n

-- the number at a place is above n, where there is one
abbrev pub IsBelow : List ℕ → ℕ → ℕ → Type 0
IsBelow numbers n place = place < length numbers → n < slice_index numbers place

-- the place of n lies from one place to another
pub record IsBetween (numbers : List ℕ) (n first last : ℕ) : Type 0 where
  pub order : first ≤ last
  pub within : last ≤ length numbers
  pub low : IsUpTo numbers n first
  pub high : IsBelow numbers n last

-- n lies at this place
pub record IsNear (numbers : List ℕ) (n place : ℕ) : Type 0 where
  pub within : place ≤ length numbers
  pub low : IsUpTo numbers n place
  pub high : IsBelow numbers n place
