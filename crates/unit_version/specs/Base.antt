-- What a base keeps.
use Rattle.std.specs.Prelude.{◌≡◌, ◌≤◌, length}
use Rattle.cubit_base.specs.LiveRow.{HasDistinctLiveKeys}
use Rattle.cubit_base.specs.Table.{HasTuples}
use Rattle.wah_words.specs.Place.{page_count}
use Rattle.unit_version.specs.declared.base.Base.TheInside.{Inside}
use Rattle.unit_version.specs.declared.unit.Unit.TheVariants as unit
use Rattle.unit_version.specs.Content.{AreContents}
use Rattle.unit_version.specs.Columns.{AreColumns}

-- what each unit holds over the table
pub record IsBase (b : Inside) : Type 0 where
  pub rows_are : b.rows ≡ length b.table.value
  pub limit : b.row_room ≤ 16_777_216
  pub keys_differ : HasDistinctLiveKeys b.table.value
  pub tuples : HasTuples b.table.value
  pub columns_are : AreColumns b.table.value b.columns
  pub pages_are : AreContents unit.Page b.table.value (page_count b.row_room) b.pages.items
  pub keys_are : AreContents unit.Keys b.table.value 64 b.keys.items
