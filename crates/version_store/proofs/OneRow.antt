-- A table of one live row.
use Rattle.std.proofs.Common.{◌≡◌, List, [], ◌∷◌, true, length, map, slice_get, Some, ap, ◌∙◌, arith}
use Rattle.std.proofs.lemmas.Option.{get_or_from_slice_get}
use Rattle.cubit_base.specs.Table.{Row}
use Rattle.unit_version.specs.Content.{is_live}

-- which of its rows are live
pub one-live : (table : List Row) (row : Row) → length table ≡ 1 → slice_get table 0 ≡ Some row → is_live row ≡ true →
    map is_live table ≡ true ∷ []
one-live [] row long at live = absurd (omega arith)
one-live (x ∷ []) row long at live =
    ap (λ b. b ∷ []) (ap is_live (get_or_from_slice_get (x ∷ []) 0 row row at) ∙ live)
one-live (x ∷ (y ∷ rows)) row long at live = absurd (omega arith)
