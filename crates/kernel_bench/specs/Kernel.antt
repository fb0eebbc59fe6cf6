-- What the kernels make.
use Rattle.std.specs.Prelude.{ℕ, zero, suc, ◌≡◌, ◌+◌, ◌-◌, ◌*◌, ◌/◌, ◌^◌, ◌++◌, ◌∷◌, min, replicate, false, Bool, ◌&&◌, ◌||◌, not, map, List, [], All, length, slice_index_or, IsTrue, Contains, ◌↔◌}
use Rattle.std.specs.Int.{div_ceil}
use Rattle.wah_words.specs.Rows.{IsToggled, differs, pointwise, true_count}
use Rattle.wah_words.specs.Place.{page_count}
use Rattle.kernel_bench.specs.Pages.{IsXor, IsSelectedOf, block_count}
use Rattle.kernel_bench.specs.declared.kernel.Kernel.{Kernel}
use Rattle.kernel_bench.specs.declared.kernel.Kernel.TheVariants.{And, Or, Xor, Not, Count, Extended, FromPlaces, Toggled, Make, Build, Window, Select}
use Rattle.kernel_bench.specs.declared.kernel.Outcome.{Outcome}
use Rattle.kernel_bench.specs.declared.kernel.Outcome.TheVariants.{List as AList, Pages, Number}

-- how many lists the kernel reads
abbrev pub input_count : Kernel → ℕ
input_count And = 2
input_count Or = 2
input_count Xor = 2
input_count Not = 1
input_count Count = 1
input_count Extended = 1
input_count FromPlaces = 1
input_count Toggled = 1
input_count Make = 1
input_count Build = 1
input_count Window = 1
input_count Select = 38

-- each list has so many rows
abbrev pub AreOfLength : ℕ → List (List Bool) → Type 0
AreOfLength rows lists = All (λ list. length list ≡ rows) lists

-- list number k, from 0
abbrev pub list_at : List (List Bool) → ℕ → List Bool
list_at lists k = slice_index_or lists k []

-- the list, and a page of false rows after it, as far as lists go
abbrev pub with_page : List Bool → List Bool
with_page list = list ++ replicate (min (length list + 3968) (2 ^ 32 - 1) - length list) false

-- the first n multiples of a step
abbrev pub multiples : ℕ → ℕ → List ℕ
multiples step zero = []
multiples step (suc n) = multiples step n ++ step * n ∷ []

-- one row in so many, from the first on
abbrev pub each_of : ℕ → ℕ → List ℕ
each_of step rows = multiples step (div_ceil rows step)

-- one row in 65,536 is turned
pub record IsTurned (old new : List Bool) : Type 0 where
  pub long : length new ≡ length old
  pub rows : IsToggled old (each_of 65_536 (length old)) new

-- one row in 84 is true, of so many
pub record IsSpread (rows : ℕ) (list : List Bool) : Type 0 where
  pub long : length list ≡ rows
  pub places : (row : ℕ) → IsTrue (slice_index_or list row false) ↔ Contains (each_of 84 rows) row

-- what the kernel makes of the lists
abbrev pub Makes : Kernel → List (List Bool) → Outcome → Type 0
Makes And lists outcome = outcome ≡ AList (pointwise ◌&&◌ (list_at lists 0) (list_at lists 1))
Makes Or lists outcome = outcome ≡ AList (pointwise ◌||◌ (list_at lists 0) (list_at lists 1))
Makes Xor lists outcome = outcome ≡ AList (pointwise differs (list_at lists 0) (list_at lists 1))
Makes Not lists outcome = outcome ≡ AList (map not (list_at lists 0))
Makes Count lists outcome = outcome ≡ Number (true_count (list_at lists 0))
Makes Extended lists outcome = outcome ≡ AList (with_page (list_at lists 0))
Makes FromPlaces lists outcome =
    (list : List Bool) × (outcome ≡ AList list) × IsSpread (length (list_at lists 0)) list
Makes Toggled lists outcome =
    (list : List Bool) × (outcome ≡ AList list) × IsTurned (list_at lists 0) list
Makes Make lists outcome = outcome ≡ Pages (list_at lists 0)
Makes Build lists outcome = outcome ≡ Pages (list_at lists 0)
Makes Window lists outcome =
    (xor : ℕ) × (outcome ≡ Number xor) × IsXor (list_at lists 0) (page_count (length (list_at lists 0))) xor
Makes Select lists outcome =
    (total : ℕ) × (outcome ≡ Number total) × IsSelectedOf lists (block_count (length (list_at lists 0))) total
