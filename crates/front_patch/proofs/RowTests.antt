-- Tests of rows.
use Rattle.std.proofs.Common.{◌≡◌, List, [], ◌∷◌, Some, None, map, ap, ◌∙◌, refl}
use Rattle.cubit_base.specs.Table.{Row}
use Rattle.column_bins.specs.declared.column.Column.{Column}
use Rattle.column_bins.specs.declared.plan_type.Stretch.{Stretch}
use Rattle.unit_version.specs.Content.{is_in_bins}
use Rattle.front_patch.specs.Bits.{passes, bits_by}
use Rattle.front_patch.specs.declared.row_test.RowTest.TheVariants.{IsInBins}

-- the test of bins is the definition of what a unit has
passes-in_bins : (column : Column) (stretch : Stretch) (row : Row) →
    passes (IsInBins column stretch) row.1 ≡ is_in_bins column stretch row
passes-in_bins column stretch (key, None) = refl
passes-in_bins column stretch (key, Some t) = refl

pub bits-in_bins : (column : Column) (stretch : Stretch) (table : List Row) →
    bits_by (IsInBins column stretch) table ≡ map (is_in_bins column stretch) table
bits-in_bins column stretch [] = refl
bits-in_bins column stretch (row ∷ table) =
    ap (λ b. b ∷ bits_by (IsInBins column stretch) table) (passes-in_bins column stretch row)
    ∙ ap (λ bits. is_in_bins column stretch row ∷ bits) (bits-in_bins column stretch table)
