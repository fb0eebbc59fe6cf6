-- Units held one after another.
use Rattle.std.proofs.Common.{◌≡◌, ℕ, suc, ◌+◌, ◌*◌, ◌<◌, ◌≤◌, ◌∙◌, ⊎_elim, Bool, cond, List, [], ◌∷◌, ◌++◌, length, take, get_or, Option, Some, None, IfSome, All, AllPairs, Contains, refl, sym, ap, subst, arith, length-append, zero-add}
use Rattle.std.specs.Prelude.{count_by, is_some, is_none}
use Rattle.std.proofs.lemmas.List.Elements.{All-nil, All-push, Contains-push, Contains-push_cases, Contains-append_left}
use Rattle.std.proofs.lemmas.List.Sums.{sum_by-append}
use Rattle.std.proofs.Math.Nat.{mul-suc}
use Rattle.std.proofs.lemmas.List.{get_or-take, length-take-le, get_or_default}
use Rattle.cubit_base.specs.declared.delta.Delta.{Delta}
use Rattle.commit_log.specs.Log.{Terms}
use Rattle.commit_log.specs.Handle.{Begins, raised}
use Rattle.unit_version.specs.Unit.{IsUnit}
use Rattle.unit_version.specs.declared.unit.Unit.{Unit as IndexUnit}
use Rattle.version_store.specs.Lasting.{fits-last}
use Rattle.version_store.specs.Place.{place_of}
use Rattle.version_store.specs.Store.{Store, Gives, Asks, KeepsClaims, RoseBy, ChangesAt, TellsAt}
use Rattle.version_store.specs.Version.{Version, Fits}
use Rattle.front_patch.specs.Holding.{HoldsOne, HoldsEach}
use Rattle.front_patch.specs.Taken.{AreGiven, claim_count, fallback_count}
use Rattle.front_patch.specs.Takes.{AreTold, TellsEach, AskedEach}
use Rattle.front_patch.proofs.Slots.{both-snoc, all-at, none-at}

-- ---- claims

kept-claim : {Claim : Type 0} (gave still : Claim → Type 0) (claim : Option Claim) →
    ((c : Claim) → gave c → still c) → IfSome claim gave → IfSome claim still
kept-claim gave still None keeps given = given
kept-claim gave still (Some c) keeps given = keeps c given

pub given-more : {Claim : Type 0} (gave still : Claim → Type 0) (claims : List (Option Claim)) (claim : Option Claim) →
    ((c : Claim) → gave c → still c) → AreGiven gave claims → IfSome claim still → AreGiven still (claims ++ claim ∷ [])
given-more gave still claims claim keeps given new =
    All-push (λ c. IfSome c still) claims claim
    (λ k d within. kept-claim gave still (get_or claims k d) keeps (given k d within)) new

pub count-snoc : {X : Type 0} (p : X → Bool) (xs : List X) (x : X) →
    count_by p (xs ++ x ∷ []) ≡ count_by p xs + cond (p x) 1 0
count-snoc p xs x = sum_by-append (λ y. cond (p y) 1 0) xs (x ∷ [])
    ∙ ap (λ n. count_by p xs + n) (zero-add (cond (p x) 1 0))

-- ---- told versions

told-none : {Claim : Type 0} (shown : Claim → Version) (told : Option (IndexUnit → Version)) → AreTold shown [] [] told
told-none shown None = tt
told-none shown (Some versions) = λ i unit claim at. none-at i unit at

told-more : {Claim : Type 0} (gave : Claim → Type 0) (shown shows : Claim → Version) (units : List IndexUnit)
    (unit : IndexUnit) (claims : List (Option Claim)) (claim : Option Claim) (told : Option (IndexUnit → Version)) →
    length claims ≡ length units → AreGiven gave claims → ((c : Claim) → gave c → shows c ≡ shown c) →
    AreTold shown units claims told →
    ((c : Claim) → claim ≡ Some c → IfSome told (λ versions. shows c ≡ versions unit)) →
    AreTold shows (units ++ unit ∷ []) (claims ++ claim ∷ []) told
told-more gave shown shows units unit claims claim None long given keeps are new = tt
told-more gave shown shows units unit claims claim (Some versions) long given keeps are new =
    λ i other c at at-claim.
    ⊎_elim
    (λ old. keeps c (all-at (λ o. IfSome o gave) claims i (Some c) given old.1) ∙ are i other c old.0 old.1)
    (λ last. new c last.1 ∙ ap versions last.0)
    (both-snoc units claims unit other claim (Some c) i long at at-claim)

-- ---- how often units were asked for

asked-none : (pages : ℕ) (asked : Option (IndexUnit → ℕ)) → TellsEach pages [] asked asked
asked-none pages None = refl
asked-none pages (Some asked) = (
  asked,
  refl,
  record {
    each = λ unit has. absurd (omega (arith, has.1));
    others = λ unit is not. refl;
  },
)

each-more : (pages : ℕ) (units : List IndexUnit) (unit : IndexUnit) (before middle now : IndexUnit → ℕ) →
    All (IsUnit pages) units → IsUnit pages unit → ¬ (Contains units unit) → AskedEach pages units before middle →
    ChangesAt pages unit (raised (middle unit)) middle now → AskedEach pages (units ++ unit ∷ []) before now
each-more pages units unit before middle now are is new asked changes = record {
  each = λ other has. ⊎_elim
      (λ old. changes.others other (subst (IsUnit pages) old.2 (are old.0 other old.1))
      (λ same. new (subst (Contains units) same old)) ∙ asked.each other old)
      (λ same. subst (λ (u : IndexUnit). now u ≡ raised (before u)) same
      (changes.here ∙ ap raised (asked.others unit is new)))
      (Contains-push_cases units unit other has);
  others = λ other is-other not.
      changes.others other is-other (λ same. not (subst (Contains (units ++ unit ∷ [])) (sym same)
      (Contains-push units unit)))
      ∙ asked.others other is-other (λ has. not (Contains-append_left units (unit ∷ []) other has));
}

asked-more : (pages : ℕ) (units : List IndexUnit) (unit : IndexUnit) (before middle now : Option (IndexUnit → ℕ)) →
    All (IsUnit pages) units → IsUnit pages unit → ¬ (Contains units unit) → TellsEach pages units before middle →
    TellsAt pages unit raised middle now → TellsEach pages (units ++ unit ∷ []) before now
asked-more pages units unit None middle now are is new told at =
    subst (λ (m : Option (IndexUnit → ℕ)). TellsAt pages unit raised m now) told at
asked-more pages units unit (Some before) middle now are is new told at =
    let last = subst (λ (m : Option (IndexUnit → ℕ)). TellsAt pages unit raised m now) told.1 at in
    (last.0, last.1, each-more pages units unit before told.0 last.0 are is new told.2 last.2)

-- ---- all of it

pub holds-none : {Claim : Type 0} (terms : Terms) (log : List Delta) (tries : ℕ) (gave : Claim → Type 0)
    (shown : Claim → Version) (store : Store) → store.lent ≡ 0 → HoldsEach terms log tries [] gave shown store store []
holds-none terms log tries gave shown store lent = record {
  long = refl;
  given = All-nil (λ c. IfSome c gave);
  fitting = λ i unit claim at. none-at i unit at;
  told = told-none shown store.told;
  asked = asked-none store.pages store.asked;
  lent = lent;
  losses = omega arith;
  never_fell = omega arith;
  pages = refl;
  told_stays = refl;
}

lent-more : {Claim : Type 0} (terms : Terms) (log : List Delta) (tries : ℕ) (unit : IndexUnit) (gave : Claim → Type 0)
    (shown : Claim → Version) (middle later : Store) (claims : List (Option Claim)) (claim : Option Claim) →
    HoldsOne terms log tries unit gave shown middle later claim → middle.lent ≡ claim_count claims →
    later.lent ≡ claim_count (claims ++ claim ∷ [])
lent-more terms log tries unit gave shown middle later claims None one was =
    omega (arith, one.1, was, count-snoc is_some claims None)
lent-more terms log tries unit gave shown middle later claims (Some c) one was =
    omega (arith, one.lent, was, count-snoc is_some claims (Some c))

mul_more : (a n : ℕ) → a * (n + 1) ≡ a * n + a
mul_more a n = let e : n + 1 ≡ suc n = omega arith in ap (λ m. a * m) e ∙ mul-suc a n ∙ omega arith

losses-more : {Claim : Type 0} (terms : Terms) (log : List Delta) (tries before : ℕ) (unit : IndexUnit)
    (gave : Claim → Type 0) (shown : Claim → Version) (middle later : Store) (claims : List (Option Claim))
    (claim : Option Claim) → HoldsOne terms log tries unit gave shown middle later claim →
    middle.losses ≤ later.losses → RoseBy (tries * fallback_count claims) before middle.losses →
    RoseBy (tries * fallback_count (claims ++ claim ∷ [])) before later.losses
losses-more terms log tries before unit gave shown middle later claims None one never was =
    let more : tries * fallback_count (claims ++ None ∷ []) ≡ tries * fallback_count claims + tries =
    ap (λ n. tries * n) (count-snoc is_none claims None) ∙ mul_more tries (fallback_count claims) in
    omega (arith, one.0, was, more)
losses-more terms log tries before unit gave shown middle later claims (Some c) one never was =
    let same : tries * fallback_count (claims ++ Some c ∷ []) ≡ tries * fallback_count claims =
    ap (λ n. tries * n) (count-snoc is_none claims (Some c) ∙ omega arith) in
    omega (arith, never, was, same)

given-one : {Claim : Type 0} (terms : Terms) (log : List Delta) (tries : ℕ) (unit : IndexUnit) (gave : Claim → Type 0)
    (shown : Claim → Version) (middle later : Store) (claim : Option Claim) →
    HoldsOne terms log tries unit gave shown middle later claim → IfSome claim gave
given-one terms log tries unit gave shown middle later None one = tt
given-one terms log tries unit gave shown middle later (Some c) one = one.given

-- what a claim's hold tells of its version
one-of : {Claim : Type 0} (terms : Terms) (log : List Delta) (tries : ℕ) (unit : IndexUnit) (gave : Claim → Type 0)
    (shown : Claim → Version) (middle later : Store) (claim : Option Claim) (c : Claim) →
    HoldsOne terms log tries unit gave shown middle later claim → claim ≡ Some c →
    Gives terms log unit gave shown middle later c
one-of terms log tries unit gave shown middle later claim c one is =
    subst (HoldsOne terms log tries unit gave shown middle later) is one

pub holds-more : {Claim : Type 0} (terms : Terms) (log longer : List Delta) (tries : ℕ) (units : List IndexUnit)
    (unit : IndexUnit) (gave still : Claim → Type 0) (shown shows : Claim → Version) (store middle later : Store)
    (claims : List (Option Claim)) (claim : Option Claim) →
    HoldsEach terms log tries units gave shown store middle claims → Begins log longer →
    All (IsUnit store.pages) units → IsUnit store.pages unit → ¬ (Contains units unit) →
    KeepsClaims gave still shown shows → Asks unit middle later →
    HoldsOne terms longer tries unit still shows middle later claim →
    HoldsEach terms longer tries (units ++ unit ∷ []) still shows store later (claims ++ claim ∷ [])
holds-more terms log longer tries units unit gave still shown shows store middle later claims claim was begins are is
    new keeps asks one =
    record {
      long = omega (arith, length-append claims (claim ∷ []), length-append units (unit ∷ []), was.long);
      given = given-more gave still claims claim (λ c given. (keeps c given).0) was.given
          (given-one terms longer tries unit still shows middle later claim one);
      fitting = λ i other c at at-claim. ⊎_elim
          (λ old.
          let kept = keeps c (all-at (λ o. IfSome o gave) claims i (Some c) was.given old.1) in
          subst (Fits terms longer other) (sym kept.1)
          (fits-last terms log longer other (shown c) begins (was.fitting i other c old.0 old.1)))
          (λ last. subst (λ (u : IndexUnit). Fits terms longer u (shows c)) last.0
          (one-of terms longer tries unit still shows middle later claim c one last.1).fits)
          (both-snoc units claims unit other claim (Some c) i was.long at at-claim);
      told = told-more gave shown shows units unit claims claim store.told was.long was.given
          (λ c given. (keeps c given).1)
          was.told (λ c is-some. subst (λ (told : Option (IndexUnit → Version)). IfSome told
          (λ versions. shows c ≡ versions unit))
          was.told_stays (one-of terms longer tries unit still shows middle later claim c one is-some).is_told);
      asked = asked-more store.pages units unit store.asked middle.asked later.asked are is new was.asked
          (subst (λ (n : ℕ). TellsAt n unit raised middle.asked later.asked) was.pages asks.asked);
      lent = lent-more terms longer tries unit still shows middle later claims claim one was.lent;
      losses = losses-more terms longer tries store.losses unit still shows middle later claims claim one asks.losses
          was.losses;
      never_fell = omega (arith, was.never_fell, asks.losses);
      pages = asks.pages ∙ was.pages;
      told_stays = asks.told ∙ was.told_stays;
    }

-- ---- the walk over the units

pub not-before : (units : List IndexUnit) (i : ℕ) (d : IndexUnit) → AllPairs (λ a b. place_of a < place_of b) units →
    i < length units → ¬ (Contains (take i units) (get_or units i d))
not-before units i d rising within has =
    let u = get_or units i d in
    let k = has.0 in
    let low : k < i = omega (arith, has.1, length-take-le i units) in
    let at : get_or units k u ≡ u = sym (get_or-take i units k u low) ∙ has.2 in
    let less : place_of (get_or units k u) < place_of (get_or units i u) = rising k i u low within in
    let here = ap place_of (get_or_default units i u d within) in
    omega (arith, less, ap place_of at, here)

pub steps-more : (before middle now each i : ℕ) → middle ≤ before + each * i → now ≤ middle + each →
    now ≤ before + each * (i + 1)
steps-more before middle now each i was step = omega (arith, was, step, mul_more each i)

-- the same of equal lists
pub holds-same : {Claim : Type 0} (terms : Terms) (log : List Delta) (tries : ℕ) (units same : List IndexUnit)
    (gave : Claim → Type 0) (shown : Claim → Version) (store later : Store) (claims equal : List (Option Claim)) →
    same ≡ units → equal ≡ claims → HoldsEach terms log tries units gave shown store later claims →
    HoldsEach terms log tries same gave shown store later equal
holds-same terms log tries units same gave shown store later claims equal units-are claims-are holds =
    subst (λ (us : List IndexUnit). HoldsEach terms log tries us gave shown store later equal) (sym units-are)
    (subst (λ cs. HoldsEach terms log tries units gave shown store later cs) (sym claims-are) holds)
