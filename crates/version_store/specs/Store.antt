-- A store of versions as one of its callers sees it.
use Rattle.std.specs.Prelude.{◌≡◌, ◌≢◌, ℕ, ◌+◌, ◌-◌, ◌^◌, ◌≤◌, ◌<◌, List, min, Option, Some, None, IfSome, Result, Ok, Err}
use Rattle.cubit_base.specs.declared.delta.Delta.{Delta}
use Rattle.wah_words.specs.Place.{page_count}
use Rattle.commit_log.specs.Log.{Terms, Stands}
use Rattle.commit_log.specs.Handle.{Handle, raised}
use Rattle.commit_log.specs.declared.front.Front.{Front}
use Rattle.unit_version.specs.BaseValue.{BaseValue}
use Rattle.unit_version.specs.Unit.{IsUnit}
use Rattle.unit_version.specs.declared.unit.Unit.{Unit as IndexUnit}
use Rattle.unit_version.specs.declared.content.Content.{Content}
use Rattle.version_store.specs.Version.{Version, Fits}
use Rattle.version_store.specs.declared.store.Again.{Again}
use Rattle.version_store.specs.declared.store.ReplaceStop.{ReplaceStop}
use Rattle.version_store.specs.declared.store.ReplaceStop.TheVariants.{Busy, Newer}

-- what a handle tells: its units, which are those of an index with so many pages, how many turns it lost, how many
-- claims it gave and did not get back, and, where told, each unit's version and how often each was asked for
pub record Store : Type 0 where
  pub pages : ℕ
  pub losses : ℕ
  pub lent : ℕ
  pub told : Option (IndexUnit → Version)
  pub asked : Option (IndexUnit → ℕ)

-- what a handle and a log have to be to each other and to the base for the layers above: no claim is out, the store
-- was made over the log and the base, the base is of the log's table, and has room for its rows
pub record IsStanding (terms : Terms) (store : Store) (base : BaseValue) (made_over : Type 0) : Type 0 where
  pub none_lent : store.lent ≡ 0
  pub over : made_over
  pub pages_are : store.pages ≡ page_count base.row_room
  pub table_is : base.table ≡ terms.base
  pub row_room : terms.limits.row_limit ≤ base.row_room
  pub tries : 1 ≤ terms.limits.tries

-- a count that is kept in 64 bits, and stays at its last value, rose by at least so much
abbrev pub RoseBy : ℕ → ℕ → ℕ → Type 0
RoseBy least before now = min (before + least) (2 ^ 64 - 1) ≤ now

-- this unit now has this value, and each other unit of an index with so many pages has what it had
pub record ChangesAt {A : Type 0} (pages : ℕ) (unit : IndexUnit) (value : A) (before now : IndexUnit → A) : Type 0 where
  pub here : now unit ≡ value
  pub others : (other : IndexUnit) → IsUnit pages other → other ≢ unit → now other ≡ before other

-- the same, where values are told
abbrev pub TellsAt : {A : Type 0} → ℕ → IndexUnit → (A → A) → Option (IndexUnit → A) → Option (IndexUnit → A) → Type 0
TellsAt pages unit change None now = now ≡ None
TellsAt {A} pages unit change (Some before) now =
    (values : IndexUnit → A) × (now ≡ Some values) × ChangesAt pages unit (change (before unit)) before values

-- what every hold of a unit does, whatever it comes to
pub record Asks (unit : IndexUnit) (store later : Store) : Type 0 where
  pub pages : later.pages ≡ store.pages
  pub losses : store.losses ≤ later.losses
  pub told : later.told ≡ store.told
  pub asked : TellsAt store.pages unit raised store.asked later.asked

-- a claim was given, which shows a version of the unit, the told one where versions are told
pub record Gives {Claim : Type 0} (terms : Terms) (log : List Delta) (unit : IndexUnit) (gave : Claim → Type 0)
    (shown : Claim → Version) (store later : Store) (claim : Claim) : Type 0 where
  pub given : gave claim
  pub fits : Fits terms log unit (shown claim)
  pub is_told : IfSome store.told (λ told. shown claim ≡ told unit)
  pub lent : later.lent ≡ store.lent + 1

-- nothing is held, since as many turns were lost as the tries allow at least
pub record GivesUp (tries : ℕ) (store later : Store) (again : Again) : Type 0 where
  pub all : tries ≤ again.lost
  pub rose : RoseBy again.lost store.losses later.losses
  pub lent : later.lent ≡ store.lent

-- what a hold comes to
abbrev pub Holds : {Claim : Type 0} → Terms → List Delta → IndexUnit → ℕ → (Claim → Type 0) → (Claim → Version) →
    Store → Store → Result Claim Again → Type 0
Holds terms log unit tries gave shown store later (Ok claim) = Gives terms log unit gave shown store later claim
Holds terms log unit tries gave shown store later (Err again) = GivesUp tries store later again

-- each claim that was given still is, and shows what it showed
abbrev pub KeepsClaims : {Claim : Type 0} → (Claim → Type 0) → (Claim → Type 0) → (Claim → Version) →
    (Claim → Version) → Type 0
KeepsClaims {Claim} gave still_gave shown still_shown =
    (claim : Claim) → gave claim → still_gave claim × (still_shown claim ≡ shown claim)

-- what every replacement keeps, whatever it comes to
pub record Keeps (store later : Store) : Type 0 where
  pub pages : later.pages ≡ store.pages
  pub losses : store.losses ≤ later.losses
  pub lent : later.lent ≡ store.lent
  pub asked : later.asked ≡ store.asked

-- the unit's version is not newer than the front, as far as it is told
abbrev pub IsNotNewer : Store → IndexUnit → Front → Type 0
IsNotNewer store unit front = IfSome store.told (λ told. (told unit).front.len ≤ front.len)

-- the version is now the unit's, and the log's handle is what it was
pub record Replaced (handle : Handle) (store : Store) (unit : IndexUnit) (version : Version) (same : Handle)
    (later : Store) : Type 0 where
  pub not_newer : IsNotNewer store unit version.front
  pub told : TellsAt store.pages unit (λ old. version) store.told later.told
  pub is_same : same ≡ handle

-- a turn was lost, and nothing else changed
pub record IsBusy (handle : Handle) (store : Store) (unit : IndexUnit) (front : Front) (same : Handle) (later : Store)
    : Type 0 where
  pub not_newer : IsNotNewer store unit front
  pub told : later.told ≡ store.told
  pub rose : RoseBy 1 store.losses later.losses
  pub is_same : same ≡ handle

-- the unit has a longer version, whose front the log's handle has seen now
pub record IsNewer (terms : Terms) (store : Store) (unit : IndexUnit) (front : Front) (seen : List Delta)
    (later : Store) (newer : Front) : Type 0 where
  pub longer : front.len < newer.len
  pub is_told : IfSome store.told (λ told. newer ≡ (told unit).front)
  pub told : later.told ≡ store.told
  pub stands : Stands terms seen newer

-- the number of what stopped a replacement
abbrev pub stop_number : ReplaceStop → ℕ
stop_number Busy = 1
stop_number (Newer front) = 2

-- what a replacement by a front and content comes to; where it is none the content comes back
abbrev pub Replaces : Terms → Handle → Store → IndexUnit → Front → Content → Handle → Store →
    Result (Unit {0}) (Content × ReplaceStop) → Type 0
Replaces terms handle store unit front content later now (Ok done) =
    Replaced handle store unit (record { front = front; content = Some content }) later now
Replaces terms handle store unit front content later now (Err (back, Busy)) =
    (back ≡ content) × IsBusy handle store unit front later now
Replaces terms handle store unit front content later now (Err (back, Newer newer)) =
    (back ≡ content) × IsNewer terms store unit front later.seen now newer
