-- Merges of one unit.
use Rattle.std.specs.Prelude.{◌≡◌, ℕ, ◌≤◌, ◌<◌, List, length, take, Option, Some, IfSome, Result, Ok, Err}
use Rattle.std.specs.declared.alloc.AllocError.{AllocError as Memory}
use Rattle.cubit_base.specs.History.{after}
use Rattle.cubit_base.specs.declared.delta.Delta.{Delta}
use Rattle.commit_log.specs.Log.{Terms, IsWhole}
use Rattle.commit_log.specs.Handle.{Handle, ReadsOn, SeesMore, with_look, raised}
use Rattle.commit_log.specs.declared.front.Front.{Front}
use Rattle.unit_version.specs.Content.{content_of}
use Rattle.unit_version.specs.declared.unit.Unit.{Unit as IndexUnit}
use Rattle.version_store.specs.Store.{Store, TellsAt, RoseBy}
use Rattle.version_store.specs.Version.{Version}
use Rattle.merger.specs.declared.outcome.Merge.{Merge}
use Rattle.merger.specs.declared.outcome.Merge.TheVariants.{Merged, Fresh, Busy}

-- the unit's version at a front of a log
abbrev pub version_at : Terms → List Delta → IndexUnit → Front → Version
version_at terms log unit front =
    record { front = front; content = Some (content_of unit (after terms.base (take front.len log))) }

-- what every merge of a unit does to a store, whatever it comes to: it asks once for the unit
pub record Visits (unit : IndexUnit) (store now : Store) : Type 0 where
  pub pages : now.pages ≡ store.pages
  pub losses : store.losses ≤ now.losses
  pub asked : TellsAt store.pages unit raised store.asked now.asked

-- the unit's version, which was of this length, is now that at the front, which is longer; no other changed
pub record IsMerged (terms : Terms) (unit : IndexUnit) (front : Front) (handle : Handle) (store : Store)
    (later : Handle) (now : Store) (from to : ℕ) : Type 0 where
  pub longer : from < to
  pub to_is : to ≡ front.len
  pub seen : later.seen ≡ handle.seen
  pub was : IfSome store.told (λ told. (told unit).front.len ≡ from)
  pub told : TellsAt store.pages unit (λ old. version_at terms later.seen unit front) store.told now.told

-- the unit's version is not shorter than the front, and of this length; no version changed
pub record IsFresh (unit : IndexUnit) (front : Front) (handle : Handle) (store : Store) (later : Handle) (now : Store)
    (len : ℕ) : Type 0 where
  pub least : front.len ≤ len
  pub most : len ≤ length later.seen
  pub is : IfSome store.told (λ told. ((told unit).front.len ≡ len) × (later.seen ≡ handle.seen))
  pub told : now.told ≡ store.told

-- a turn was lost; no version changed
pub record IsBusy (store now : Store) : Type 0 where
  pub rose : RoseBy 1 store.losses now.losses
  pub told : now.told ≡ store.told

-- what a merge of the unit by a front comes to; without memory no version changed
abbrev pub Merges : Terms → IndexUnit → Front → Handle → Store → Handle → Store → Result Merge Memory → Type 0
Merges terms unit front handle store later now (Ok (Merged from to)) =
    IsMerged terms unit front handle store later now from to
Merges terms unit front handle store later now (Ok (Fresh len)) = IsFresh unit front handle store later now len
Merges terms unit front handle store later now (Ok Busy) = IsBusy store now
Merges terms unit front handle store later now (Err memory) = now.told ≡ store.told

-- a unit was merged by a front that was taken once, of all that was seen then, and nothing was appended
pub record MergesNow (terms : Terms) (unit : IndexUnit) (handle : Handle) (store : Store) (later : Handle)
    (now : Store) (result : Result Merge Memory) : Type 0 where
  pub read : Handle
  pub front : Front
  pub more : SeesMore (with_look handle) read
  pub whole : IsWhole terms read.seen front
  pub merges : Merges terms unit front read store later now result
  pub reads : ReadsOn read later
