-- The live row of a key, by a delta that may be of it.
use Rattle.std.proofs.Common.{◌≡◌, ℕ, Bool, true, false, Option, Some, None, if◌then◌else◌, refl}
use Rattle.std.specs.Option.{option_map}
use Rattle.cubit_base.specs.Tuple.{TupleValue}
use Rattle.cubit_base.specs.History.{live_row_by_last}
use Rattle.cubit_base.specs.declared.delta.Delta.{Delta}

pub live-by-one : (is_of_key : Bool) (d : Delta) (before : Option (ℕ × TupleValue)) →
    live_row_by_last (if is_of_key then Some d else None) before
    ≡ (if is_of_key then option_map (λ tuple. (d.row, tuple)) d.after else before)
live-by-one true d before = refl
live-by-one false d before = refl
