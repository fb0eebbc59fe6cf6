-- What bitvectors of any age show of rows that did not change.
use Rattle.std.proofs.Common.{◌≡◌, ℕ, ◌+◌, ◌-◌, ◌*◌, ◌<◌, ◌≤◌, ◌∙◌, ◌||◌, Bool, false, List, [], length, map, take, get_or, Option, Some, None, refl, sym, ap, arith}
use Rattle.std.specs.Prelude.{nat_le, nat_lt, ◌&&◌}
use Rattle.std.specs.Option.{unwrap_or}
use Rattle.std.proofs.lemmas.Bool.Decides.{nat_tests}
use Rattle.cubit_base.specs.Table.{Row}
use Rattle.cubit_base.specs.Tuple.{TupleValue}
use Rattle.cubit_base.specs.LiveRow.{tuple_at}
use Rattle.cubit_base.specs.History.{after}
use Rattle.cubit_base.specs.declared.delta.Delta.{Delta}
use Rattle.commit_log.specs.Log.{Terms}
use Rattle.column_bins.specs.Column.{tuple_bin}
use Rattle.column_bins.specs.declared.column.Column.{Column}
use Rattle.column_bins.specs.declared.plan_type.Stretch.{Stretch}
use Rattle.unit_version.specs.Content.{content_of, is_in_bins, one_bin}
use Rattle.unit_version.specs.Union.{bins_from}
use Rattle.unit_version.specs.Unit.{IsUnit}
use Rattle.unit_version.specs.declared.unit.Unit.{Unit as IndexUnit}
use Rattle.unit_version.specs.declared.unit.Unit.TheVariants.{Live, Bin, Page, Keys}
use Rattle.unit_version.specs.declared.content.Content.{Content}
use Rattle.unit_version.specs.declared.content.Content.TheVariants as content
use Rattle.front_patch.specs.Bits.{IsBits, bits_of, bits_by, passes, row_in}
use Rattle.front_patch.specs.Changed.{AreChanged, AreStates, IsSteady, ShowOthers}
use Rattle.front_patch.specs.RowStates.{last_state}
use Rattle.front_patch.specs.declared.row_state.RowState.{RowState}
use Rattle.front_patch.specs.declared.row_test.RowTest.{RowTest}
use Rattle.front_patch.specs.declared.row_test.RowTest.TheVariants.{IsInBins}
use Rattle.front_patch.proofs.Groups.{row-passes}
use Rattle.front_patch.proofs.RowTests.{bits-in_bins}

bits_in : Content → List Bool
bits_in (content.Bits bits) = bits
bits_in (content.Page page) = []
bits_in (content.Keys keys) = []

-- the bitvector that a unit's content is
pub content-bits : (unit : IndexUnit) (bits : List Bool) (table : List Row) → IsBits unit →
    content.Bits bits ≡ content_of unit table → bits ≡ bits_of unit table
unfolding bits_in
content-bits Live bits table is same = ap bits_in same
content-bits (Bin column bin) bits table is same = ap bits_in same
content-bits (Page page) bits table is same = absurd is
content-bits (Keys rest) bits table is same = absurd is

pub bits-unit : (pages : ℕ) (unit : IndexUnit) → IsBits unit → IsUnit pages unit → IsUnit 0 unit
bits-unit pages Live is is-unit = tt
bits-unit pages (Bin column bin) is is-unit = is-unit
bits-unit pages (Page page) is is-unit = absurd is
bits-unit pages (Keys rest) is is-unit = absurd is

-- a row without a state is as it was
pub unchanged : (changed : List RowState) (old new : List Row) (row : ℕ) → AreChanged changed old new →
    last_state row changed ≡ None → tuple_at old row ≡ tuple_at new row
unchanged changed old new row are none = sym (are row ∙ ap (λ state. unwrap_or state (tuple_at old row)) none)

pub states-new : (changed : List RowState) (old new : List Row) → AreChanged changed old new → AreStates changed new
states-new changed old new are row tuple is = are row ∙ ap (λ state. unwrap_or state (tuple_at old row)) is

-- the groups of a page of an older bitvector
pub page-others : (test : RowTest) (changed : List RowState) (bits : List Bool) (old new : List Row) (page : ℕ)
    (groups : List ℕ) → length groups ≡ 128 → bits ≡ bits_by test old → AreChanged changed old new →
    ((row : ℕ) → row < 3968 → row_in groups row ≡ get_or bits (3968 * page + row) false) →
    ShowOthers test changed new page groups
page-others test changed bits old new page groups long is are shows row within none =
    shows row (omega (arith, within, long)) ∙ ap (λ (b : List Bool). get_or b (3968 * page + row) false) is
    ∙ row-passes test old (3968 * page + row)
    ∙ ap (passes test) (unchanged changed old new (3968 * page + row) are none)

-- the row of a bin's older bitvector, where it did not change
pub bin-steady : (terms : Terms) (seen : List Delta) (least len row bin : ℕ) (column : Column) (bits : List Bool) →
    least ≤ len → len ≤ length seen →
    content.Bits bits ≡ content_of (Bin column bin) (after terms.base (take len seen)) →
    IsSteady terms seen least row → get_or bits row false
    ≡ passes (IsInBins column (one_bin bin)) (tuple_at (after terms.base seen) row)
bin-steady terms seen least len row bin column bits since within is steady =
    let old = after terms.base (take len seen) in
    ap (λ (b : List Bool). get_or b row false)
    (content-bits (Bin column bin) bits old tt is ∙ sym (bits-in_bins column (one_bin bin) old))
    ∙ row-passes (IsInBins column (one_bin bin)) old row
    ∙ ap (passes (IsInBins column (one_bin bin))) (steady len since within)

in-none : (first after n : ℕ) → after ≤ first → false ≡ (nat_le first n && nat_lt n after)
in-none first after n none = grind (arith, nat_tests)

-- no bin
pub bins-none : (column : Column) (first after : ℕ) (tuple : Option TupleValue) → after ≤ first →
    false ≡ passes (IsInBins column (record { first = first; after = after })) tuple
bins-none column first after None none = refl
bins-none column first after (Some t) none = in-none first after (tuple_bin column t) none

in-end : (first bin after n : ℕ) → bin - first ≡ after - first →
    (nat_le first n && nat_lt n bin) ≡ (nat_le first n && nat_lt n after)
in-end first bin after n same = grind (arith, nat_tests)

-- the last bin
pub bins-end : (column : Column) (first bin after : ℕ) (tuple : Option TupleValue) → bin - first ≡ after - first →
    passes (IsInBins column (record { first = first; after = bin })) tuple
    ≡ passes (IsInBins column (record { first = first; after = after })) tuple
bins-end column first bin after None same = refl
bins-end column first bin after (Some t) same = in-end first bin after (tuple_bin column t) same

-- the row of a union of the base's bins, where it did not change since the base
pub union-steady : (terms : Terms) (seen : List Delta) (least row : ℕ) (column : Column) (stretch : Stretch)
    (bits : List Bool) → least ≡ 0 → bits ≡ map (is_in_bins column stretch) terms.base →
    IsSteady terms seen least row → get_or bits row false
    ≡ passes (IsInBins column stretch) (tuple_at (after terms.base seen) row)
union-steady terms seen least row column stretch bits none is steady =
    ap (λ (b : List Bool). get_or b row false) (is ∙ sym (bits-in_bins column stretch terms.base))
    ∙ row-passes (IsInBins column stretch) terms.base row
    ∙ ap (passes (IsInBins column stretch)) (steady 0 (omega (arith, none)) (omega arith))

in-union : (first bin bins n : ℕ) → first ≤ bin →
    ((nat_le first n && nat_lt n bin) || (nat_le bin n && nat_lt n (bin + bins)))
    ≡ (nat_le first n && nat_lt n (bin + bins))
in-union first bin bins n low = grind (arith, nat_tests)

-- some bins more
pub bins-more : (column : Column) (first bin bins : ℕ) (tuple : Option TupleValue) → first ≤ bin →
    (passes (IsInBins column (record { first = first; after = bin })) tuple
    || passes (IsInBins column (bins_from bin bins)) tuple)
    ≡ passes (IsInBins column (record { first = first; after = bin + bins })) tuple
bins-more column first bin bins None low = refl
bins-more column first bin bins (Some t) low = in-union first bin bins (tuple_bin column t) low
