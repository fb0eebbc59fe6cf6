-- Contents that a patch brings to a front.
use Rattle.std.specs.Prelude.{◌≡◌, ℕ, ◌+◌, ◌≤◌, Bool, List, map, length, take, Option, None, IfSome}
use Rattle.std.specs.Option.{option_and_then, unwrap_or}
use Rattle.cubit_base.specs.Table.{Row}
use Rattle.version_store.specs.Version.{Version}
use Rattle.cubit_base.specs.History.{after}
use Rattle.cubit_base.specs.declared.delta.Delta.{Delta}
use Rattle.commit_log.specs.Log.{Terms}
use Rattle.column_bins.specs.declared.column.Column.{Column}
use Rattle.unit_version.specs.Union.{bins_from}
use Rattle.unit_version.specs.Content.{content_of, is_in_bins}
use Rattle.unit_version.specs.declared.unit.Unit.{Unit as IndexUnit}
use Rattle.unit_version.specs.declared.content.Content.{Content}

-- the content is the unit's after a prefix of the log that has the least length at least
pub record IsContentSince (terms : Terms) (log : List Delta) (least : ℕ) (unit : IndexUnit) (content : Content)
    : Type 0 where
  pub len : ℕ
  pub since : least ≤ len
  pub within : len ≤ length log
  pub is : content ≡ content_of unit (after terms.base (take len log))

-- what a version holds: its own content, or the base's, which serves also where there is no version
abbrev pub content_by : Option Version → IndexUnit → List Row → Content
content_by version unit table = unwrap_or (option_and_then (λ v. v.content) version) (content_of unit table)

-- there is no version with content of its own
abbrev pub ShowsBase : Option Version → Type 0
ShowsBase version = IfSome version (λ v. v.content ≡ None)

-- the bitvector is the union of so many bins from one on, over the base table, which serves where the least length is 0
pub record IsUnionSince (terms : Terms) (least : ℕ) (column : Column) (bin after bins : ℕ) (bits : List Bool) : Type
    0 where
  pub some : 1 ≤ bins
  pub within : bin + bins ≤ after
  pub least_is : least ≡ 0
  pub is : bits ≡ map (is_in_bins column (bins_from bin bins)) terms.base
