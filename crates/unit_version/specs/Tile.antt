-- The groups of one page, for many bins at once, and lists that are written from them.
use Rattle.std.specs.Prelude.{ℕ, ◌≡◌, ◌+◌, ◌*◌, ◌<◌, ◌≤◌, ◌==◌, Bool, List, [], length, map, take, drop, slice_index, slice_index_or}
use Rattle.column_bins.specs.declared.plan_type.Stretch.{Stretch}
use Rattle.column_bins.specs.Plan.{in_stretch}
use Rattle.wah_words.specs.Group.{group_at}

-- which rows are of a bin, or of a stretch of bins, by the bins of the rows
abbrev pub rows_of : ℕ → List ℕ → List Bool
rows_of bin bins = map (λ b. b == bin) bins

abbrev pub rows_in : Stretch → List ℕ → List Bool
rows_in stretch bins = map (in_stretch stretch) bins

-- each bin has 144 numbers: the 128 groups of its rows in the page, and 0 behind them
pub record IsTile (bins tile : List ℕ) : Type 0 where
  pub each : (bin k : ℕ) → k < 144 → 144 * bin + k < length tile
      → slice_index tile (144 * bin + k) ≡ group_at (rows_of bin bins) k

-- the bins of the 3,968 rows of a page, and 255 past the last row
pub record ArePageBins (bins : List ℕ) (page : ℕ) (part : List ℕ) : Type 0 where
  pub each : (at : ℕ) → at < 3968 → slice_index_or part at 255 ≡ slice_index_or bins (3968 * page + at) 255

-- the tile has the groups of a page of all rows
pub record HasPage (bins : List ℕ) (page : ℕ) (tile : List ℕ) : Type 0 where
  pub each : (bin k : ℕ) → bin < 255 → k < 128 → 144 * bin + k < length tile
      → slice_index tile (144 * bin + k) ≡ group_at (rows_of bin bins) (128 * page + k)

-- the groups of a bin
abbrev pub page_of : List ℕ → ℕ → List ℕ
page_of tile bin = take 128 (drop (144 * bin) tile)

-- the groups are those of a list's page
pub record IsPageOf (list : List Bool) (page : ℕ) (groups : List ℕ) : Type 0 where
  pub long : length groups ≡ 128
  pub each : (k : ℕ) → k < 128 → slice_index groups k ≡ group_at list (128 * page + k)

-- the groups are those of a list's first pages
pub record AreFirstPages (list : List Bool) (pages : ℕ) (groups : List ℕ) : Type 0 where
  pub long : length groups ≡ 128 * pages
  pub each : (k : ℕ) → k < 128 * pages → slice_index groups k ≡ group_at list k

-- each of the first so many lists, which are of some bins each, has one page more, that of the tile; the others stay
pub record ArePushed (of : ℕ → Stretch) (tile : List ℕ) (count : ℕ) (old new : List (List ℕ)) : Type 0 where
  pub long : length new ≡ length old
  pub each : (k : ℕ) → k < count → (bins : List ℕ) (page : ℕ) → HasPage bins page tile
      → AreFirstPages (rows_in (of k) bins) page (slice_index_or old k [])
      → AreFirstPages (rows_in (of k) bins) (page + 1) (slice_index_or new k [])
  pub rest : (k : ℕ) → count ≤ k → slice_index_or new k [] ≡ slice_index_or old k []

-- the lists from the first up to an end, which are of some bins each, with the first pages of the rows
pub record AreWritten (bins : List ℕ) (of : ℕ → Stretch) (pages first end : ℕ) (lists : List (List ℕ)) : Type 0 where
  pub long : first + length lists ≡ end
  pub each : (k : ℕ) → k < length lists
      → AreFirstPages (rows_in (of (first + k)) bins) pages (slice_index_or lists k [])
