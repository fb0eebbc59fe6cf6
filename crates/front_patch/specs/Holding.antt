-- Units that are held one after another.
use Rattle.std.specs.Prelude.{◌≡◌, ℕ, ◌*◌, ◌≤◌, List, length, slice_get, All, Option, Some, None, IfSome}
use Rattle.cubit_base.specs.declared.delta.Delta.{Delta}
use Rattle.commit_log.specs.Log.{Terms, Stands}
use Rattle.unit_version.specs.declared.unit.Unit.{Unit as IndexUnit}
use Rattle.version_store.specs.Store.{Store, Gives, RoseBy}
use Rattle.version_store.specs.Version.{Version, Fits}
use Rattle.front_patch.specs.Taken.{AreGiven, claim_count, fallback_count}
use Rattle.front_patch.specs.Takes.{AreTold, TellsEach}

-- a unit was held, or as many turns were lost as there were tries
abbrev pub HoldsOne : {Claim : Type 0} → Terms → List Delta → ℕ → IndexUnit → (Claim → Type 0) → (Claim → Version) →
    Store → Store → Option Claim → Type 0
HoldsOne terms log tries unit gave shown store later None =
    RoseBy tries store.losses later.losses × (later.lent ≡ store.lent)
HoldsOne terms log tries unit gave shown store later (Some claim) = Gives terms log unit gave shown store later claim

-- each claim shows a version that fits its unit
abbrev pub AreFitting : {Claim : Type 0} → Terms → List Delta → List IndexUnit → (Claim → Version) →
    List (Option Claim) → Type 0
AreFitting {Claim} terms log units shown claims = (i : ℕ) (unit : IndexUnit) (claim : Claim) →
    slice_get units i ≡ Some unit → slice_get claims i ≡ Some (Some claim) → Fits terms log unit (shown claim)

-- each claim shows a version at a front of the log
abbrev pub AreAtFronts : {Claim : Type 0} → Terms → List Delta → (Claim → Version) → List (Option Claim) → Type 0
AreAtFronts terms log shown claims =
    All (λ claim. IfSome claim (λ c. Stands terms log (shown c).front)) claims

-- the units were held once each
pub record HoldsEach {Claim : Type 0} (terms : Terms) (log : List Delta) (tries : ℕ) (units : List IndexUnit)
    (gave : Claim → Type 0) (shown : Claim → Version) (store later : Store) (claims : List (Option Claim)) : Type 0
  where
    pub long : length claims ≡ length units
    pub given : AreGiven gave claims
    pub fitting : AreFitting terms log units shown claims
    pub told : AreTold shown units claims store.told
    pub asked : TellsEach store.pages units store.asked later.asked
    pub lent : later.lent ≡ claim_count claims
    pub losses : RoseBy (tries * fallback_count claims) store.losses later.losses
    pub never_fell : store.losses ≤ later.losses
    pub pages : later.pages ≡ store.pages
    pub told_stays : later.told ≡ store.told
