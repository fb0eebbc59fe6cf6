-- Merges of all units by one front.
use Rattle.std.specs.Prelude.{◌≡◌, ℕ, ◌+◌, ◌≤◌, ◌<◌, ◌==◌, List, length, if◌then◌else◌, Option, Some, None, IfSome, Result, Ok, Err}
use Rattle.std.specs.declared.alloc.AllocError.{AllocError as Memory}
use Rattle.cubit_base.specs.History.{rows_after}
use Rattle.cubit_base.specs.declared.delta.Delta.{Delta}
use Rattle.commit_log.specs.Log.{Terms}
use Rattle.commit_log.specs.Handle.{Handle, ReadsOn, SeesMore, raised}
use Rattle.commit_log.specs.declared.front.Front.{Front}
use Rattle.unit_version.specs.Unit.{IsUnit, unit_count}
use Rattle.unit_version.specs.declared.unit.Unit.{Unit as IndexUnit}
use Rattle.version_store.specs.Store.{Store, RoseBy}
use Rattle.version_store.specs.Version.{Version}
use Rattle.merger.specs.declared.outcome.Merge.{Merge}
use Rattle.merger.specs.declared.outcome.Merge.TheVariants.{Merged, Fresh, Busy}
use Rattle.merger.specs.declared.outcome.MergeCount.{MergeCount}
use Rattle.merger.specs.Merge.{version_at, Merges}
use Rattle.merger.specs.Order.{count_units, TellsThrough}

-- a unit was merged by this front, and nothing was appended
pub record MergesBy (terms : Terms) (unit : IndexUnit) (front : Front) (handle : Handle) (store : Store)
    (later : Handle) (now : Store) (result : Result Merge Memory) : Type 0 where
  pub read : Handle
  pub more : SeesMore handle read
  pub merges : Merges terms unit front read store later now result
  pub reads : ReadsOn read later

-- the counts with one merge more
abbrev pub counted : MergeCount → Merge → MergeCount
counted count (Merged from to) = record count { merged = count.merged + 1 }
counted count (Fresh len) = record count { fresh = count.fresh + 1 }
counted count Busy = record count { busy = count.busy + 1 }

-- a version of the front's length stays, and any other becomes that at the front
abbrev pub caught_up : Terms → List Delta → Front → IndexUnit → Version → Version
caught_up terms log front unit version =
    if version.front.len == front.len then version else version_at terms log unit front

-- how many of the first n units have a version of this length
abbrev pub count_at : ℕ → (IndexUnit → Version) → ℕ → ℕ → ℕ
count_at len told pages n = count_units (λ unit. (told unit).front.len == len) pages n

-- the front of all of a log
abbrev pub front_of : Terms → List Delta → Front
front_of terms log = record { len = length log; rows = rows_after terms.base log; node = terms.node log }

-- the first n units were merged by a front of all of a log: where nothing more is seen and no turn was lost, each
-- version has caught up, as far as versions are told
pub record AreMerged (terms : Terms) (log : List Delta) (front : Front) (store : Store) (later : Handle) (now : Store)
    (n : ℕ) (count : MergeCount) : Type 0 where
  pub sum : count.merged + count.fresh + count.busy ≡ n
  pub busy : 0 < count.busy → RoseBy 1 store.losses now.losses
  pub pages : now.pages ≡ store.pages
  pub losses : store.losses ≤ now.losses
  pub asked : TellsThrough store.pages n (λ unit. raised) store.asked now.asked
  pub fresh : later.seen ≡ log → now.losses < raised store.losses →
      IfSome store.told (λ told. count.fresh ≡ count_at front.len told store.pages n)
  pub told : later.seen ≡ log → now.losses < raised store.losses →
      TellsThrough store.pages n (caught_up terms log front) store.told now.told

-- each unit's value was changed, where values are told
abbrev pub TellsEach : {A : Type 0} → ℕ → (IndexUnit → A → A) → Option (IndexUnit → A) → Option (IndexUnit → A) → Type 0
TellsEach pages change None now = now ≡ None
TellsEach {A} pages change (Some before) now =
    (values : IndexUnit → A) × (now ≡ Some values)
    × ((unit : IndexUnit) → IsUnit pages unit → values unit ≡ change unit (before unit))

-- all units were merged: each was asked for once; a unit is counted as busy only where a turn was lost; where nothing
-- more was seen and no turn was lost, each version has caught up with all that was seen, and those that stood there
-- already are counted as fresh
pub record IsAllMerged (terms : Terms) (handle : Handle) (store : Store) (later : Handle) (now : Store)
    (count : MergeCount) : Type 0 where
  pub sum : count.merged + count.fresh + count.busy ≡ unit_count store.pages
  pub busy : 0 < count.busy → RoseBy 1 store.losses now.losses
  pub asked : TellsEach store.pages (λ unit. raised) store.asked now.asked
  pub fresh : later.seen ≡ handle.seen → now.losses < raised store.losses →
      IfSome store.told (λ told. count.fresh ≡ count_at (length later.seen) told store.pages (unit_count store.pages))
  pub told : later.seen ≡ handle.seen → now.losses < raised store.losses →
      TellsEach store.pages (caught_up terms later.seen (front_of terms later.seen)) store.told now.told
