-- What comes of taking versions at one front.
use Rattle.std.specs.Prelude.{◌≡◌, ℕ, zero, suc, ◌+◌, ◌*◌, ◌≤◌, List, length, map, min, slice_get, Contains, Option, Some, None, IfSome, Result, Ok, Err, if◌then◌else◌}
use Rattle.std.specs.List.{fold}
use Rattle.std.specs.Option.{option_map}
use Rattle.std.specs.declared.alloc.AllocError.{AllocError}
use Rattle.commit_log.specs.Log.{Terms, Stands, IsWhole}
use Rattle.commit_log.specs.Handle.{Handle, SeesMore, Grows, mine, raised, with_look}
use Rattle.commit_log.specs.declared.front.Front.{Front}
use Rattle.column_bins.specs.declared.plan_type.Plan.{Plan}
use Rattle.unit_version.specs.BaseValue.{BaseValue}
use Rattle.unit_version.specs.Unit.{IsUnit}
use Rattle.unit_version.specs.declared.unit.Unit.{Unit as IndexUnit}
use Rattle.wah_words.specs.Place.{page_count}
use Rattle.version_store.specs.Store.{Store, RoseBy}
use Rattle.version_store.specs.Version.{Version}
use Rattle.front_patch.specs.Planned.{units_of}
use Rattle.front_patch.specs.Taken.{TakenValue, IsTakenOver, claim_count, fallback_count, patched_by}

-- how many pages of a plan so many rows have
abbrev pub pages_of : Plan → ℕ → ℕ
pages_of plan rows = if plan.pages then page_count rows else 0

-- the length of a version; 0 where the base's content serves
abbrev pub length_of : Option Version → ℕ
length_of None = 0
length_of (Some version) = version.front.len

-- the least length: that of the first front, or of a version
abbrev pub least_length : ℕ → List (Option Version) → ℕ
least_length first versions = fold (λ least version. min least (length_of version)) first versions

-- a count that is kept in 64 bits, after so many more: at its last value it stays
unfoldable pub raised_by : ℕ → ℕ → ℕ
raised_by zero count = count
raised_by (suc n) count = raised (raised_by n count)

-- the handle after walks that gave so many entries
abbrev pub with_walks : ℕ → Handle → Handle
with_walks n handle = record handle { walked = option_map (raised_by n) handle.walked }

-- nothing but the number of entries that walks gave may have changed
abbrev pub AtMostWalks : Handle → Handle → Type 0
AtMostWalks handle later = (n : ℕ) × (later ≡ with_walks n handle)

-- the same handle, which took two fronts, whose walks gave so many entries, and which may have seen more
abbrev pub SeesAndCounts : ℕ → Handle → Handle → Type 0
SeesAndCounts walked handle later = SeesMore (with_walks walked (with_look (with_look handle))) later

-- the same caller, who has seen no less, and appended nothing
pub record SeesOnly (handle later : Handle) : Type 0 where
  pub grows : Grows handle later
  pub mine : mine later ≡ mine handle
  pub spare : later.spare ≡ handle.spare

-- the store has the same units and versions
pub record KeepsVersions (store later : Store) : Type 0 where
  pub pages : later.pages ≡ store.pages
  pub told : later.told ≡ store.told
  pub losses : store.losses ≤ later.losses

-- each of these units was asked for once, and no other unit of an index with so many pages
pub record AskedEach (pages : ℕ) (units : List IndexUnit) (before now : IndexUnit → ℕ) : Type 0 where
  pub each : (unit : IndexUnit) → Contains units unit → now unit ≡ raised (before unit)
  pub others : (unit : IndexUnit) → IsUnit pages unit → ¬ (Contains units unit) → now unit ≡ before unit

-- the same, where it is told how often each was asked for
abbrev pub TellsEach : ℕ → List IndexUnit → Option (IndexUnit → ℕ) → Option (IndexUnit → ℕ) → Type 0
TellsEach pages units None now = now ≡ None
TellsEach pages units (Some before) now =
    (asked : IndexUnit → ℕ) × (now ≡ Some asked) × AskedEach pages units before asked

-- each claim shows the told version of its unit
abbrev pub AreTold : {Claim : Type 0} → (Claim → Version) → List IndexUnit → List (Option Claim) →
    Option (IndexUnit → Version) → Type 0
AreTold {Claim} shown units claims told = IfSome told (λ versions. (i : ℕ) (unit : IndexUnit) (claim : Claim) →
    slice_get units i ≡ Some unit → slice_get claims i ≡ Some (Some claim) → shown claim ≡ versions unit)

-- the versions of the plan's units were taken, at the front of all that was seen in the end
pub record Takes {Claim : Type 0} (terms : Terms) (plan : Plan) (tries : ℕ) (gave : Claim → Type 0)
    (shown : Claim → Version) (base : BaseValue) (handle : Handle) (store : Store) (later : Handle) (now : Store)
    (taken : TakenValue Claim) : Type 0 where
  pub over : IsTakenOver terms gave shown base taken
  pub seen : taken.seen ≡ later.seen
  pub whole : IsWhole terms taken.seen taken.front
  pub sees : SeesAndCounts (patched_by taken) handle later
  -- the units are those of the plan at a first front, from which and from the versions the least length is
  pub plan_is : taken.plan ≡ plan
  pub first : Front
  pub stands : Stands terms taken.seen first
  pub begins : length handle.seen ≤ first.len
  pub pages_are : taken.pages ≡ pages_of plan first.rows
  pub long : length taken.claims ≡ length (units_of plan taken.pages)
  pub least : taken.least ≡ least_length first.len (map (option_map shown) taken.claims)
  pub told : AreTold shown (units_of plan taken.pages) taken.claims store.told
  -- each unit was held once
  pub asked : TellsEach store.pages (units_of plan taken.pages) store.asked now.asked
  pub lent : now.lent ≡ claim_count taken.claims
  pub losses : RoseBy (tries * fallback_count taken.claims) store.losses now.losses

-- what taking comes to; without memory no claim is out
abbrev pub Takings : {Claim : Type 0} → Terms → Plan → ℕ → (Claim → Type 0) → (Claim → Version) → BaseValue →
    Handle → Store → Handle → Store → Result (TakenValue Claim) AllocError → Type 0
Takings terms plan tries gave shown base handle store later now (Err memory) = now.lent ≡ 0
Takings terms plan tries gave shown base handle store later now (Ok taken) =
    Takes terms plan tries gave shown base handle store later now taken

-- how many steps it takes at most
abbrev pub take_steps : {Claim : Type 0} → ℕ → TakenValue Claim → ℕ
take_steps tries taken =
    6 + 5 * patched_by taken + (2 * tries + 8) * length (units_of taken.plan taken.pages)
