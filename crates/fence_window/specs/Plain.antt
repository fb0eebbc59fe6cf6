-- Plain groups.
use Rattle.std.specs.Prelude.{ℕ, ◌^◌, ◌<◌, All, List}
use Rattle.wah_words.specs.Place.{ArePagesOf}

-- the groups of all pages of so many rows
pub record IsPlain (groups : List ℕ) (rows : ℕ) : Type 0 where
  pub within : All (λ group. group < 2 ^ 31) groups
  pub pages : ArePagesOf groups rows
