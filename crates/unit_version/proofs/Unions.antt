-- Unions of bins.
use Rattle.std.proofs.Common.{◌≡◌, ℕ, zero, suc, ◌+◌, ◌*◌, ◌<◌, ◌≤◌, ◌==◌, ◌∙◌, Bool, false, ◌||◌, List, [], ◌∷◌, length, get_or, replicate, refl, sym, ap, arith}
use Rattle.std.specs.Prelude.{bit_or}
use Rattle.std.proofs.lemmas.Bool.Decides.{nat_tests}
use Rattle.std.proofs.lemmas.List.{get_or-replicate, length-map, length-replicate}
use Rattle.column_bins.specs.declared.plan_type.Stretch.{Stretch}
use Rattle.column_bins.specs.Plan.{in_stretch}
use Rattle.wah_words.specs.Group.{group_at}
use Rattle.wah_words.specs.Rows.{pointwise}
use Rattle.unit_version.specs.Tile.{HasPage, IsPageOf, rows_in, rows_of}
use Rattle.unit_version.proofs.Tiles.{group_at-none}

-- the bins from one up to another
abbrev up_to : ℕ → ℕ → Stretch
up_to first after = record { first = first; after = after }

-- a stretch of no bins has no rows
rows_in-none : (first : ℕ) (rows : List ℕ) (i : ℕ) → get_or (rows_in (up_to first first) rows) i false ≡ false
rows_in-none first [] i = refl
rows_in-none first (b ∷ rows) zero = grind (arith, nat_tests)
rows_in-none first (b ∷ rows) (suc i) = rows_in-none first rows i

pub IsPageOf-none : (first page : ℕ) (rows : List ℕ)
    → IsPageOf (rows_in (up_to first first) rows) page (replicate 128 0)
IsPageOf-none first page rows = record {
  long = length-replicate 128 zero;
  each = λ k low.
      get_or-replicate 128 k zero zero low
      ∙ sym (group_at-none (rows_in (up_to first first) rows) (128 * page + k) (rows_in-none first rows));
}

-- one bin more
in_stretch-more : (first bin b : ℕ) → first ≤ bin
    → (in_stretch (up_to first bin) b || (b == bin)) ≡ in_stretch (up_to first (bin + 1)) b
in_stretch-more first bin b order = grind (arith, nat_tests, order)

rows_in-more : (first bin : ℕ) (rows : List ℕ) → first ≤ bin
    → pointwise ◌||◌ (rows_in (up_to first bin) rows) (rows_of bin rows) ≡ rows_in (up_to first (bin + 1)) rows
rows_in-more first bin [] order = refl
rows_in-more first bin (b ∷ rows) order = rw (in_stretch-more first bin b order, rows_in-more first bin rows order) refl

pub IsPageOf-more : ((a b : List Bool) (k : ℕ) → length a ≡ length b
    → group_at (pointwise ◌||◌ a b) k ≡ bit_or (group_at a k) (group_at b k)) → (first bin page : ℕ)
    (rows tile old new : List ℕ) → first ≤ bin → bin < 255 → 144 * bin + 128 ≤ length tile → HasPage rows page tile
    → IsPageOf (rows_in (up_to first bin) rows) page old → length new ≡ 128
    → ((k : ℕ) → k < 128 → get_or new k 0 ≡ bit_or (get_or old k 0) (get_or tile (144 * bin + k) 0))
    → IsPageOf (rows_in (up_to first (bin + 1)) rows) page new
IsPageOf-more law first bin page rows tile old new order few within has are long ors = record {
  long = long;
  each = λ k low.
      let place = 128 * page + k in
      let a = rows_in (up_to first bin) rows in
      let b = rows_of bin rows in
      let same : length a ≡ length b =
      length-map rows (in_stretch (up_to first bin)) ∙ sym (length-map rows (λ x. x == bin)) in
      ors k low
      ∙ ap (λ n. bit_or n (get_or tile (144 * bin + k) 0)) (are.each k low)
      ∙ ap (bit_or (group_at a place)) (has.each bin k few low (omega (arith, low, within)))
      ∙ sym (law a b place same)
      ∙ ap (λ list. group_at list place) (rows_in-more first bin rows order);
}
