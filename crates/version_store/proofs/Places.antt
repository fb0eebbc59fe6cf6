-- The places of units.
use Rattle.std.proofs.Common.{◌≡◌, ℕ, ◌-◌, sym, refl, ap, ◌∙◌, arith}
use Rattle.std.proofs.lemmas.Grind.{common_steps}
use Rattle.std.specs.Prelude.{nat_lt, if◌then◌else◌}
use Rattle.column_bins.specs.declared.column.Column.TheVariants.{Ship, Disc, Qty, Flag, Status}
use Rattle.unit_version.specs.Unit.{IsUnit}
use Rattle.unit_version.specs.declared.unit.Unit.{Unit as IndexUnit}
use Rattle.unit_version.specs.declared.unit.Unit.TheVariants.{Live, Bin, Page, Keys}
use Rattle.version_store.specs.Place.{place_of}

-- the unit that has the place
abbrev unit_at : ℕ → IndexUnit
unit_at n =
    if nat_lt n 1 then Live
    else (if nat_lt n 85 then Bin Ship (n - 1)
    else (if nat_lt n 96 then Bin Disc (n - 85)
    else (if nat_lt n 146 then Bin Qty (n - 96)
    else (if nat_lt n 149 then Bin Flag (n - 146)
    else (if nat_lt n 151 then Bin Status (n - 149)
    else (if nat_lt n 215 then Keys (n - 151) else Page (n - 215)))))))

unit-at : (pages : ℕ) (unit : IndexUnit) → IsUnit pages unit → unit_at (place_of unit) ≡ unit
unit-at pages Live is = refl
unit-at pages (Bin Ship bin) is = grind (arith, common_steps)
unit-at pages (Bin Disc bin) is = grind (arith, common_steps)
unit-at pages (Bin Qty bin) is = grind (arith, common_steps)
unit-at pages (Bin Flag bin) is = grind (arith, common_steps)
unit-at pages (Bin Status bin) is = grind (arith, common_steps)
unit-at pages (Keys rest) is = grind (arith, common_steps)
unit-at pages (Page page) is = grind (arith, common_steps)

-- no two units have one place
pub place-apart : (pages : ℕ) (a b : IndexUnit) → IsUnit pages a → IsUnit pages b → place_of a ≡ place_of b → a ≡ b
place-apart pages a b is-a is-b same =
    sym (unit-at pages a is-a) ∙ ap unit_at same ∙ unit-at pages b is-b
