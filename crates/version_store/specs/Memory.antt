-- A store in memory, of which all is told.
use Rattle.std.specs.Prelude.{◌≡◌, ℕ, List, length, slice_index, slice_index_or, Some, None}
use Rattle.cubit_base.specs.declared.delta.Delta.{Delta}
use Rattle.commit_log.specs.Log.{Terms}
use Rattle.commit_log.specs.Handle.{Begins}
use Rattle.unit_version.specs.Unit.{IsUnit, unit_count}
use Rattle.unit_version.specs.declared.unit.Unit.{Unit as IndexUnit}
use Rattle.version_store.specs.Place.{place_of}
use Rattle.version_store.specs.Store.{Store}
use Rattle.version_store.specs.Version.{Version, Fits}
use Rattle.version_store.specs.declared.memory.MemoryClaim.{MemoryClaim}
use Rattle.version_store.specs.Lasting.{fits-last}

-- how many pages its units have, how many claims are out, and each unit's version and how often each was asked for, in
-- the places of the units
pub record MemoryValue : Type 0 where
  pub pages : ℕ
  pub lent : ℕ
  pub versions : List Version
  pub asked : List ℕ

-- what stands past the end of such a list, where no unit has its place
abbrev pub no_version : Version
no_version = record { front = record { len = 0; rows = 0; node = 0 }; content = None }

-- the unit's version, and how often it was asked for
abbrev pub version_of : List Version → IndexUnit → Version
version_of versions unit = slice_index_or versions (place_of unit) no_version

abbrev pub asked_of : List ℕ → IndexUnit → ℕ
asked_of asked unit = slice_index asked (place_of unit)

-- the claim is of one of its units, and shows the unit's version
abbrev pub IsGiven : MemoryValue → MemoryClaim → Type 0
IsGiven memory claim = IsUnit memory.pages claim.unit

abbrev pub shown_by : MemoryValue → MemoryClaim → Version
shown_by memory claim = version_of memory.versions claim.unit

-- what it tells; it loses no turn
abbrev pub memory_store : MemoryValue → Store
memory_store memory = record {
  pages = memory.pages;
  losses = 0;
  lent = memory.lent;
  told = Some (version_of memory.versions);
  asked = Some (asked_of memory.asked);
}

-- each unit has one of its versions, at a front of the log
abbrev pub AreVersions : Terms → MemoryValue → List Delta → Type 0
AreVersions terms memory log =
    (unit : IndexUnit) → IsUnit memory.pages unit → Fits terms log unit (version_of memory.versions unit)

-- each unit has this version and was not asked for, and no claim is out
pub record IsNew (units : ℕ) (version : Version) (memory : MemoryValue) : Type 0 where
  pub pages_are : memory.pages ≡ units
  pub none_lent : memory.lent ≡ 0
  pub is_version : (unit : IndexUnit) → IsUnit units unit → version_of memory.versions unit ≡ version
  pub not_asked : (unit : IndexUnit) → IsUnit units unit → asked_of memory.asked unit ≡ 0

-- there is a version and a number for each unit
pub record HasPlaces (pages : ℕ) (versions : List Version) (asked : List ℕ) : Type 0 where
  pub versions_are : length versions ≡ unit_count pages
  pub asked_are : length asked ≡ unit_count pages

-- versions stay such over a longer log
pub versions-last : (terms : Terms) (memory : MemoryValue) (log longer : List Delta) → AreVersions terms memory log →
    Begins log longer → AreVersions terms memory longer
versions-last terms memory log longer are begins unit is =
    fits-last terms log longer unit (version_of memory.versions unit) begins (are unit is)
