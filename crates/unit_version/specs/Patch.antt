-- A unit that follows the changes of its table.
use Rattle.std.specs.Prelude.{ℕ, ◌≡◌, List, length}
use Rattle.cubit_base.specs.Table.{Row}
use Rattle.cubit_base.specs.History.{after, rows_after, IsHistory}
use Rattle.cubit_base.specs.declared.delta.Delta.{Delta}
use Rattle.wah_words.specs.Place.{page_count}
use Rattle.unit_version.specs.Unit.{IsUnit}
use Rattle.unit_version.specs.Content.{content_of}
use Rattle.unit_version.specs.declared.unit.Unit.{Unit as IndexUnit}
use Rattle.unit_version.specs.declared.content.Content.{Content}

-- the unit is one of the largest index, and so of any
abbrev pub IsSomeUnit : IndexUnit → Type 0
IsSomeUnit unit = IsUnit (page_count 16_777_216) unit

-- what a unit holds, and how many rows there are, before deltas and after them
pub record Step : Type 0 where
  pub unit : IndexUnit
  pub content : Content
  pub rows_before : ℕ
  pub deltas : List Delta
  pub rows_then : ℕ

-- the table has this content of the unit and so many rows, the deltas may come next over it one after another, and so
-- many rows there are then
pub record Leads (step : Step) (table : List Row) : Type 0 where
  pub holds : step.content ≡ content_of step.unit table
  pub rows_are : length table ≡ step.rows_before
  pub lawful : IsHistory 16_777_216 table step.deltas
  pub rows_become : rows_after table step.deltas ≡ step.rows_then

-- some table does
abbrev pub CanPatch : Step → Type 0
CanPatch step = (table : List Row) × Leads step table

-- the content is the unit's after the deltas, over each table that does
abbrev pub IsPatched : Step → Content → Type 0
IsPatched step content =
    (table : List Row) → Leads step table → content ≡ content_of step.unit (after table step.deltas)
