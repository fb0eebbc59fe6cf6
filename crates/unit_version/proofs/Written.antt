-- Lists written page by page.
use Rattle.std.proofs.Common.{◌≡◌, ℕ, ◌+◌, ◌-◌, ◌*◌, ◌/◌, ◌%◌, ◌^◌, ◌<◌, ◌≤◌, ◌==◌, ◌∙◌, Bool, false, List, [], ◌∷◌, ◌++◌, length, get_or, set, take, drop, map, refl, sym, ap, subst, inl, inr, arith}
use Rattle.std.specs.List.{remove}
use Rattle.std.proofs.lemmas.Bool.{cases_eq, cases_lt}
use Rattle.std.proofs.lemmas.Bool.Decides.{nat_tests}
use Rattle.std.proofs.lemmas.List.{get_or-drop, get_or-take, get_or_append_left, get_or-append_right, get_or_past, get_or_default, get_or-set_same, get_or-set_other, length-set, length-append, length-drop, length-map, length-take-le}
use Rattle.std.proofs.Math.ListN.{get_or-map}
use Rattle.std.proofs.lemmas.List.Edits.{length-remove, get_or-remove_above}
use Rattle.wah_words.specs.Group.{group_at, group_count, unpacked}
use Rattle.wah_words.specs.Place.{ArePagesOf, SpellPages, page_count}
use Rattle.cubit_base.specs.Table.{Row}
use Rattle.column_bins.specs.declared.column.Column.{Column}
use Rattle.column_bins.specs.declared.plan_type.Stretch.{Stretch}
use Rattle.column_bins.specs.Plan.{in_stretch}
use Rattle.unit_version.specs.Content.{is_in_bins, one_bin}
use Rattle.unit_version.specs.RowBins.{row_bin}
use Rattle.unit_version.specs.Tile.{ArePageBins, ArePushed, AreFirstPages, AreWritten, HasPage, IsPageOf, IsTile, page_of, rows_in, rows_of}
use Rattle.unit_version.proofs.RowBits.{rows_in-bins, same-bin}
use Rattle.unit_version.proofs.Tiles.{group_at-same}

-- the numbers of a tile are groups
pub tile-within : ((list : List Bool) (k : ℕ) → group_at list k < 2 ^ 31) → (bins tile : List ℕ) → IsTile bins tile
    → (i d : ℕ) → i < length tile → get_or tile i d < 2 ^ 31
tile-within within bins tile is i d low =
    let parts : 144 * (i / 144) + i % 144 ≡ i = omega arith in
    let group = rw parts at (is.each (i / 144) (i % 144) (omega arith) (omega (arith, low))) in
    let at : get_or tile i d ≡ group_at (rows_of (i / 144) bins) (i % 144) = get_or_default tile i d 0 low ∙ group in
    rw at (within (rows_of (i / 144) bins) (i % 144))

-- a row of a bin
rows_of-row : (bin : ℕ) (bins : List ℕ) (i : ℕ) → bin < 255
    → get_or (rows_of bin bins) i false ≡ (get_or bins i 255 == bin)
rows_of-row bin bins i low =
    let none : (255 == bin) ≡ false = grind (arith, nat_tests) in
    ap (λ row. get_or (rows_of bin bins) i row) (sym none) ∙ get_or-map (λ b. b == bin) bins i 255

-- the groups of a page's rows are groups of all rows
group_at-page : (bins part : List ℕ) (page bin k : ℕ) → ArePageBins bins page part → bin < 255 → k < 128
    → group_at (rows_of bin part) k ≡ group_at (rows_of bin bins) (128 * page + k)
group_at-page bins part page bin k are low few =
    group_at-same (rows_of bin part) (rows_of bin bins) k (128 * page + k) (λ at within.
    let there : 3968 * page + (31 * k + at) ≡ 31 * (128 * page + k) + at = omega arith in
    rows_of-row bin part (31 * k + at) low
    ∙ ap (λ b. b == bin) (are.each (31 * k + at) (omega arith))
    ∙ sym (rows_of-row bin bins (3968 * page + (31 * k + at)) low)
    ∙ ap (λ row. get_or (rows_of bin bins) row false) there)

-- the tile of a page's rows has the page
pub HasPage-filled : (bins part tile : List ℕ) (page : ℕ) → ArePageBins bins page part → IsTile part tile
    → HasPage bins page tile
HasPage-filled bins part tile page are is = record {
  each = λ bin k low few within.
      is.each bin k (omega (arith, few)) within ∙ group_at-page bins part page bin k are low few;
}

-- the rows of one bin, as those of a stretch
rows_of-one : (bin : ℕ) (bins : List ℕ) → rows_of bin bins ≡ rows_in (one_bin bin) bins
rows_of-one bin [] = refl
rows_of-one bin (b ∷ bins) = rw (same-bin b bin, rows_of-one bin bins) refl

-- the groups of one bin
pub IsPageOf-bin : (bins tile : List ℕ) (page bin : ℕ) → HasPage bins page tile → bin < 255
    → 144 * bin + 128 ≤ length tile → IsPageOf (rows_in (one_bin bin) bins) page (page_of tile bin)
IsPageOf-bin bins tile page bin has low within = record {
  long = length-take-le 128 (drop (144 * bin) tile) (omega (arith, length-drop (144 * bin) tile, within));
  each = λ k few.
      get_or-take 128 (drop (144 * bin) tile) k 0 few
      ∙ get_or-drop (144 * bin) tile k 0
      ∙ has.each bin k low few (omega (arith, few, within))
      ∙ ap (λ list. group_at list (128 * page + k)) (rows_of-one bin bins);
}

-- the numbers of a page are groups
pub IsPageOf-within : ((list : List Bool) (k : ℕ) → group_at list k < 2 ^ 31) → (list : List Bool) (page : ℕ)
    (groups : List ℕ) → IsPageOf list page groups → (i d : ℕ) → i < length groups → get_or groups i d < 2 ^ 31
IsPageOf-within within list page groups is i d low =
    rw (get_or_default groups i d 0 low, is.each i (omega (arith, is.long, low))) (within list (128 * page + i))

-- no pages
pub AreFirstPages-none : (list : List Bool) → AreFirstPages list 0 []
AreFirstPages-none list = record { long = refl; each = λ k low. absurd (omega arith) }

-- one page more
pub AreFirstPages-more : (list : List Bool) (page : ℕ) (groups part : List ℕ) → AreFirstPages list page groups
    → IsPageOf list page part → AreFirstPages list (page + 1) (groups ++ part)
AreFirstPages-more list page groups part are is = record {
  long = omega (arith, length-append groups part, are.long, is.long);
  each = λ k low.
      elim (cases_lt k (128 * page)) [
        | inl before ↦
            get_or_append_left groups part 0 k (omega (arith, before, are.long)) ∙ are.each k before
        | inr from ↦
            let there : 128 * page + (k - 128 * page) ≡ k = omega (arith, from) in
            get_or-append_right groups part (128 * page) k 0 are.long from
            ∙ is.each (k - 128 * page) (omega (arith, from, low))
            ∙ ap (group_at list) there
      ];
}

-- one list more has a page more
pub ArePushed-more : (of : ℕ → Stretch) (tile : List ℕ) (n : ℕ) (old new : List (List ℕ)) (part : List ℕ)
    → ArePushed of tile n old new → n < length old
    → ((bins : List ℕ) (page : ℕ) → HasPage bins page tile → IsPageOf (rows_in (of n) bins) page part)
    → ArePushed of tile (n + 1) old (set new n (get_or new n [] ++ part))
ArePushed-more of tile n old new part are within is =
    let own = get_or new n [] ++ part in
    record {
      long = length-set new n own ∙ are.long;
      each = λ k low bins page has before.
          elim (cases_eq k n) [
            | inl same ↦
                let kept : get_or new n [] ≡ get_or old n [] = are.rest n (omega arith) in
                let first = rw same at before in
                rw (same, get_or-set_same new n own [] (omega (arith, within, are.long)), kept)
                (AreFirstPages-more (rows_in (of n) bins) page (get_or old n []) part first (is bins page has))
            | inr other ↦
                rw (get_or-set_other new n k own [] other) (are.each k (omega (arith, low, other)) bins page has before)
          ];
      rest = λ k from.
          get_or-set_other new n k own [] (λ same. absurd (omega (arith, same, from)))
          ∙ are.rest k (omega (arith, from));
    }

-- a page of each list
pub AreWritten-more : (bins : List ℕ) (of : ℕ → Stretch) (page count : ℕ) (tile : List ℕ) (old new : List (List ℕ))
    → AreWritten bins of page 0 count old → HasPage bins page tile → ArePushed of tile (length old) old new
    → AreWritten bins of (page + 1) 0 count new
AreWritten-more bins of page count tile old new are has pushed = record {
  long = omega (arith, are.long, pushed.long);
  each = λ k low.
      let here : 0 + k ≡ k = omega arith in
      let before = rw here at (are.each k (omega (arith, low, pushed.long))) in
      rw here (pushed.each k (omega (arith, low, pushed.long)) bins page has before);
}

-- there is room for a page more
pub AreWritten-room : (bins : List ℕ) (of : ℕ → Stretch) (pages count : ℕ) (lists : List (List ℕ))
    → AreWritten bins of pages 0 count lists → pages < 5000 → (k : ℕ) → length (get_or lists k []) + 128 < 2 ^ 30
AreWritten-room bins of pages count lists are few bin =
    elim (cases_lt bin (length lists)) [
      | inl within ↦
          let here : 0 + bin ≡ bin = omega arith in
          let written = rw here at (are.each bin within) in
          omega (arith, written.long, few)
      | inr past ↦ let none = get_or_past lists bin [] past in rw none (omega arith)
    ]

-- the lists without the first
pub AreWritten-rest : (bins : List ℕ) (of : ℕ → Stretch) (pages first after : ℕ) (lists : List (List ℕ))
    → 0 < length lists → AreWritten bins of pages first after lists
    → AreWritten bins of pages (first + 1) after (remove lists 0)
AreWritten-rest bins of pages first after lists some are =
    let long = length-remove lists 0 some in
    record {
      long = omega (arith, are.long, long, some);
      each = λ k low.
          let there : first + 1 + k ≡ first + (k + 1) = omega arith in
          rw (get_or-remove_above lists 0 [] k (omega arith) some, there)
          (are.each (k + 1) (omega (arith, low, long, some)));
    }

-- all pages are those of the list
pub all_pages : ((list : List Bool) (k : ℕ) → group_count (length list) ≤ k → group_at list k ≡ 0)
    → (list : List Bool) (groups : List ℕ) → AreFirstPages list (page_count (length list)) groups
    → SpellPages groups list
all_pages past list groups are = record {
  long = are.long;
  each = λ k.
      elim (cases_lt k (128 * page_count (length list))) [
        | inl within ↦ are.each k within
        | inr behind ↦
            get_or_past groups k 0 (omega (arith, behind, are.long)) ∙ sym (past list k (omega (arith, behind)))
      ];
}

-- what is known of the groups of lists
pub record PageLaws : Type 0 where
  pub past : (list : List Bool) (k : ℕ) → group_count (length list) ≤ k → group_at list k ≡ 0
  pub held : (groups : List ℕ) (list : List Bool) → SpellPages groups list → ArePagesOf groups (length list)
  pub list : (groups : List ℕ) (list : List Bool) → SpellPages groups list → take (length list) (unpacked groups) ≡ list

-- the groups are of the pages of so many rows, and these are of the list
pub record IsMade (rows : ℕ) (groups : List ℕ) (list : List Bool) : Type 0 where
  pub pages : ArePagesOf groups rows
  pub is : take rows (unpacked groups) ≡ list

-- the groups of all pages are those of the live rows of some bins
pub IsMade-all : PageLaws → (column : Column) (table : List Row) (stretch : Stretch) (groups : List ℕ)
    → stretch.after ≤ 255
    → AreFirstPages (rows_in stretch (map (row_bin column) table)) (page_count (length table)) groups
    → IsMade (length table) groups (map (is_in_bins column stretch) table)
IsMade-all laws column table stretch groups few are =
    let bins = map (row_bin column) table in
    let list = rows_in stretch bins in
    let long : length list ≡ length table =
    length-map bins (in_stretch stretch) ∙ length-map table (row_bin column) in
    let pages : AreFirstPages list (page_count (length list)) groups = rw long are in
    let spelled : SpellPages groups list = all_pages laws.past list groups pages in
    record {
      pages = subst (ArePagesOf groups) long (laws.held groups list spelled);
      is = ap (λ n. take n (unpacked groups)) (sym long) ∙ laws.list groups list spelled
          ∙ rows_in-bins column stretch table few;
    }

-- so are those of the first list
pub IsMade-first : PageLaws → (column : Column) (table : List Row) (of : ℕ → Stretch) (first end : ℕ)
    (lists : List (List ℕ)) (groups : List ℕ)
    → AreWritten (map (row_bin column) table) of (page_count (length table)) first end lists → (of first).after ≤ 255
    → 0 < length lists → groups ≡ get_or lists 0 groups
    → IsMade (length table) groups (map (is_in_bins column (of first)) table)
IsMade-first laws column table of first end lists groups are few some is =
    let here : first + 0 ≡ first = omega arith in
    let own : groups ≡ get_or lists 0 [] = is ∙ get_or_default lists 0 groups [] some in
    IsMade-all laws column table (of first) groups few (rw own (rw here at (are.each 0 some)))
