-- Columns of orders.
use Rattle.std.specs.Prelude.{◌≡◌, ◌≢◌, ℕ, ◌-◌, ◌≤◌, ◌<◌, List, slice_index}

-- from one place to another each order is another one
abbrev pub HasNoOrder : List ℕ → ℕ → ℕ → ℕ → Type 0
HasNoOrder orders order from to = (place : ℕ) → from ≤ place → place < to → slice_index orders place ≢ order

-- the orders up to the end have this one as their last, if they have it, and behind it there is none
pub record EndsWith (orders : List ℕ) (order from to end : ℕ) : Type 0 where
  pub first : from ≤ end
  pub within : end ≤ to
  pub found : from < end → slice_index orders (end - 1) ≡ order
  pub behind : HasNoOrder orders order end to
