-- What groups tell of a table's rows.
use Rattle.std.proofs.Common.{◌≡◌, ℕ, zero, suc, ◌+◌, ◌*◌, ◌/◌, ◌%◌, ◌^◌, ◌<◌, ◌≤◌, ◌∙◌, ◌&&◌, ◌||◌, Bool, false, List, [], ◌∷◌, length, map, get_or, All, Option, Some, None, refl, sym, ap, arith}
use Rattle.std.proofs.lemmas.List.{get_or_default}
use Rattle.cubit_base.specs.Table.{Row}
use Rattle.cubit_base.specs.Tuple.{TupleValue}
use Rattle.cubit_base.specs.LiveRow.{tuple_at}
use Rattle.column_bins.specs.declared.column.Column.{Column}
use Rattle.column_bins.specs.declared.plan_type.Stretch.{Stretch}
use Rattle.unit_version.specs.Content.{is_in_bins}
use Rattle.wah_words.specs.Group.{group_at, group_row}
use Rattle.front_patch.specs.Bits.{row_in}
use Rattle.selection.specs.Blocks.{Tells}
use Rattle.selection.specs.Scan.{has_bin_at}

-- the laws of groups
pub record GroupLaws : Type 0 where
  pub within : (list : List Bool) (k : ℕ) → group_at list k < 2 ^ 31
  pub row : (list : List Bool) (k place : ℕ) → place < 31 →
      get_or list (31 * k + place) false ≡ group_row (group_at list k) place

-- a row of a list that is made of a table's rows
row-of-map : (f : Row → Bool) (test : Option TupleValue → Bool) (table : List Row) (row : ℕ) →
    ((r : Row) → f r ≡ test r.1) → test None ≡ false → get_or (map f table) row false ≡ test (tuple_at table row)
row-of-map f test [] row same none = sym none
row-of-map f test (r ∷ table) zero same none = same r
row-of-map f test (r ∷ table) (suc row) same none = row-of-map f test table row same none

-- groups of such a list tell of the rows
pub tells-list : (f : Row → Bool) (test : Option TupleValue → Bool) (table : List Row) (page n : ℕ) (groups : List ℕ) →
    GroupLaws → ((r : Row) → f r ≡ test r.1) → test None ≡ false → length groups ≡ n →
    ((i : ℕ) → i < n → get_or groups i 0 ≡ group_at (map f table) (128 * page + i)) → Tells test table page groups
tells-list f test table page n groups laws same none long are =
    let list = map f table in record {
      small = λ k d within.
          omega (
            arith,
            get_or_default groups k d 0 within,
            are k (omega (arith, within, long)),
            laws.within list (128 * page + k),
          );
      each = λ row within.
          let number : 31 * (128 * page + row / 31) + row % 31 ≡ 3968 * page + row = omega arith in
          ap (λ group. group_row group (row % 31)) (are (row / 31) (omega (arith, within, long)))
          ∙ sym (laws.row list (128 * page + row / 31) (row % 31) (omega arith))
          ∙ ap (λ n. get_or list n false) number
          ∙ row-of-map f test table (3968 * page + row) same none;
    }

pub bins-row : (column : Column) (stretch : Stretch) (r : Row) →
    is_in_bins column stretch r ≡ has_bin_at column stretch r.1
bins-row column stretch (key, None) = refl
bins-row column stretch (key, Some t) = refl

-- another test that says the same
pub tells-same : (f g : Option TupleValue → Bool) (table : List Row) (page : ℕ) (groups : List ℕ) →
    ((t : Option TupleValue) → f t ≡ g t) → Tells f table page groups → Tells g table page groups
tells-same f g table page groups same tells = record {
  small = tells.small;
  each = λ row within. tells.each row within ∙ same (tuple_at table (3968 * page + row));
}

-- both tests, or either
pub tells-both : (f g : Option TupleValue → Bool) (table : List Row) (page : ℕ) (old others new : List ℕ) →
    length new ≡ length old → length old ≡ length others → All (λ group. group < 2 ^ 31) new →
    ((row : ℕ) → row_in new row ≡ (row_in old row && row_in others row)) → Tells f table page old →
    Tells g table page others → Tells (λ t. f t && g t) table page new
tells-both f g table page old others new long same small rows first second = record {
  small = small;
  each = λ row within. rows row
      ∙ ap (λ b. b && row_in others row) (first.each row (omega (arith, within, long)))
      ∙ ap (λ b. f (tuple_at table (3968 * page + row)) && b) (second.each row (omega (arith, within, long, same)));
}

pub tells-either : (f g : Option TupleValue → Bool) (table : List Row) (page : ℕ) (old others new : List ℕ) →
    length new ≡ length old → length old ≡ length others → All (λ group. group < 2 ^ 31) new →
    ((row : ℕ) → row_in new row ≡ (row_in old row || row_in others row)) → Tells f table page old →
    Tells g table page others → Tells (λ t. f t || g t) table page new
tells-either f g table page old others new long same small rows first second = record {
  small = small;
  each = λ row within. rows row
      ∙ ap (λ b. b || row_in others row) (first.each row (omega (arith, within, long)))
      ∙ ap (λ b. f (tuple_at table (3968 * page + row)) || b) (second.each row (omega (arith, within, long, same)));
}

-- one of several pages
pub tells-page : (test : Option TupleValue → Bool) (table : List Row) (first k : ℕ) (groups page : List ℕ) →
    128 * k + 128 ≤ length groups → length page ≡ 128 →
    ((i : ℕ) → i < 128 → get_or page i 0 ≡ get_or groups (128 * k + i) 0) → Tells test table first groups →
    Tells test table (first + k) page
tells-page test table first k groups page room long are tells = record {
  small = λ i d within.
      omega (
        arith,
        get_or_default page i d 0 within,
        are i (omega (arith, within, long)),
        tells.small (128 * k + i) 0 (omega (arith, within, long, room)),
      );
  each = λ row within.
      let there = 3968 * k + row in
      let group : there / 31 ≡ 128 * k + row / 31 = omega arith in
      let place : there % 31 ≡ row % 31 = omega arith in
      let number : 3968 * first + there ≡ 3968 * (first + k) + row = omega arith in
      ap (λ g. group_row g (row % 31)) (are (row / 31) (omega (arith, within, long)))
      ∙ ap (λ p. group_row (get_or groups (128 * k + row / 31) 0) p) (sym place)
      ∙ ap (λ n. group_row (get_or groups n 0) (there % 31)) (sym group)
      ∙ tells.each there (omega (arith, within, long, room))
      ∙ ap (λ n. test (tuple_at table n)) number;
}
