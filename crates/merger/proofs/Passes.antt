-- One unit more that was merged.
use Rattle.std.proofs.Common.{◌≡◌, ◌≢◌, ℕ, suc, ◌+◌, ◌<◌, ◌≤◌, ◌==◌, Bool, true, false, if◌then◌else◌, nat_lt, List, [], ◌∷◌, length, take, Option, Some, None, IfSome, Ok, sym, refl, ap, ◌∙◌, subst, arith, length-append}
use Rattle.std.proofs.lemmas.List.{append-nil, take_all}
use Rattle.cubit_base.specs.History.{rows_after}
use Rattle.std.proofs.lemmas.Option.{IfSome_then}
use Rattle.cubit_base.specs.declared.delta.Delta.{Delta}
use Rattle.commit_log.specs.Growing.{begins-length}
use Rattle.commit_log.specs.Log.{Terms, IsWhole}
use Rattle.commit_log.specs.Handle.{Handle, Begins, SeesMore, ReadsOn, with_look, raised}
use Rattle.commit_log.specs.declared.front.Front.{Front}
use Rattle.unit_version.specs.Unit.{IsUnit, unit_count}
use Rattle.unit_version.specs.declared.unit.Unit.{Unit as IndexUnit}
use Rattle.version_store.specs.Store.{Store, ChangesAt, TellsAt, RoseBy}
use Rattle.version_store.specs.Version.{Version}
use Rattle.merger.specs.declared.outcome.Merge.{Merge}
use Rattle.merger.specs.declared.outcome.Merge.TheVariants.{Merged, Fresh, Busy}
use Rattle.merger.specs.declared.outcome.MergeCount.{MergeCount}
use Rattle.merger.specs.Merge.{version_at, Visits, Merges}
use Rattle.merger.specs.Order.{order_of, unit_at, count_units, GoesThrough, TellsThrough}
use Rattle.merger.specs.All.{MergesBy, AreMerged, IsAllMerged, TellsEach, counted, caught_up, count_at, front_of}
use Rattle.merger.proofs.Ordered.{order-at, order-within, is-unit}
use Rattle.merger.proofs.Passing.{tells-none, tells-next}

-- a log that is no longer than a part of it is that part
begins-same : (log longer : List Delta) → Begins log longer → length longer ≤ length log → longer ≡ log
begins-same log longer ([], is) short = is ∙ append-nil log
begins-same log longer ((d ∷ rest), is) short =
    let long = ap (λ (l : List Delta). length l) is ∙ length-append log (d ∷ rest) in
    absurd (omega (arith, long, short))

-- changes that come to the same
tells-same : {A : Type 0} (pages : ℕ) (unit : IndexUnit) (f g : A → A) (before now : Option (IndexUnit → A)) →
    IfSome before (λ told. f (told unit) ≡ g (told unit)) → TellsAt pages unit f before now →
    TellsAt pages unit g before now
tells-same pages unit f g None now same at = at
tells-same pages unit f g (Some told) now same (values, is, at) =
    (values, is, record { here = at.here ∙ same; others = at.others })

-- nothing changes
tells-stay : {A : Type 0} (pages : ℕ) (unit : IndexUnit) (g : A → A) (before now : Option (IndexUnit → A)) →
    IfSome before (λ told. g (told unit) ≡ told unit) → now ≡ before → TellsAt pages unit g before now
tells-stay pages unit g None now same is = is
tells-stay pages unit g (Some told) now same is =
    (told, is, record { here = sym same; others = λ other is_unit apart. refl })

-- the count of units whose version has the front's length, and one unit more
pub fresh-next : (pages n len : ℕ) (change : IndexUnit → Version → Version)
    (first before : Option (IndexUnit → Version)) (fresh more : ℕ) → n < unit_count pages
    → TellsThrough pages n change first before →
    IfSome first (λ told. fresh ≡ count_at len told pages n) →
    IfSome before (λ told. more ≡ fresh + (if (told (unit_at pages n)).front.len == len then 1 else 0)) →
    IfSome first (λ told. more ≡ count_at len told pages (n + 1))
fresh-next pages n len change None before fresh more within through so_far one = so_far
fresh-next pages n len change (Some first) before fresh more within (values, is, goes) so_far one =
    let place = order-at pages n within in
    let unit = unit_at pages n in
    let same : values unit ≡ first unit =
    goes.each unit (is-unit pages n within)
    ∙ grind (arith, place) in
    let last : suc n ≡ n + 1 = omega arith in
    let one_more = subst (λ told. IfSome told (λ t. more ≡ fresh + (if (t unit).front.len == len then 1 else 0)))
    is one in
    one_more
    ∙ ap (λ k. k + (if (values unit).front.len == len then 1 else 0)) so_far
    ∙ ap (λ (v : Version). count_at len first pages n + (if v.front.len == len then 1 else 0)) same
    ∙ ap (count_at len first pages) last

-- the version of one unit more, where nothing more was seen and no turn was lost
module _ (terms : Terms) (log : List Delta) (front : Front) (unit : IndexUnit) (read later : Handle)
    (store before now : Store) (whole : front.len ≡ length log) (same : later.seen ≡ log)
    (losses : store.losses ≤ before.losses) (lossless : now.losses < raised store.losses) where
  abbrev pub change : Version → Version
  change = caught_up terms log front unit

  abbrev pub with_one : ℕ → Version → ℕ
  with_one fresh version = fresh + (if version.front.len == front.len then 1 else 0)

  abbrev pub one_more : MergeCount → MergeCount → Option (IndexUnit → Version) → Type 0
  one_more count more told = IfSome told (λ t. more.fresh ≡ with_one count.fresh (t unit))

  -- a shorter version is carried on
  carried : (version : Version) (from : ℕ) → from < front.len → version.front.len ≡ from →
      version_at terms later.seen unit front ≡ change version
  carried version from less is =
      ap (λ (l : List Delta). version_at terms l unit front) same ∙ grind (arith, less, is)

  not_counted : (version : Version) (from fresh : ℕ) → from < front.len → version.front.len ≡ from →
      fresh ≡ with_one fresh version
  not_counted version from fresh less is = grind (arith, less, is)

  -- one that is new enough has the front's length, and stays
  equal : (version : Version) (len : ℕ) → front.len ≤ len → len ≤ length later.seen → version.front.len ≡ len →
      version.front.len ≡ front.len
  equal version len least most is =
      let long = ap (λ (l : List Delta). length l) same in omega (arith, whole, least, most, is, long)

  stays : (version : Version) → version.front.len ≡ front.len → change version ≡ version
  stays version e = grind (arith, e)

  is_counted : (version : Version) (fresh : ℕ) → version.front.len ≡ front.len → fresh + 1 ≡ with_one fresh version
  is_counted version fresh e = grind (arith, e)

  pub effect : (count : MergeCount) (merge : Merge) → Merges terms unit front read before later now (Ok merge) →
      TellsAt before.pages unit change before.told now.told × one_more count (counted count merge) before.told
  effect count (Merged from to) m =
      let less : from < front.len = omega (arith, m.longer, m.to_is) in (
        tells-same before.pages unit (λ old. version_at terms later.seen unit front) change before.told now.told
            (IfSome_then before.told m.was (λ told is. carried (told unit) from less is)) m.told,
        IfSome_then before.told m.was (λ told is. not_counted (told unit) from count.fresh less is),
      )
  effect count (Fresh len) m = (
    tells-stay before.pages unit change before.told now.told
        (IfSome_then before.told m.is (λ told is. stays (told unit) (equal (told unit) len m.least m.most is.0)))
        m.told,
    IfSome_then before.told m.is (λ told is.
        is_counted (told unit) count.fresh (equal (told unit) len m.least m.most is.0)),
  )
  effect count Busy m = absurd (omega (arith, m.rose, losses, lossless))

-- as many were hindered as turns were lost, at least where there is one
busy-next : (terms : Terms) (unit : IndexUnit) (front : Front) (read later : Handle) (store before now : Store)
    (count : MergeCount) (merge : Merge) → (0 < count.busy → RoseBy 1 store.losses before.losses) →
    store.losses ≤ before.losses → before.losses ≤ now.losses →
    Merges terms unit front read before later now (Ok merge) →
    0 < (counted count merge).busy → RoseBy 1 store.losses now.losses
busy-next terms unit front read later store before now count (Merged from to) so_far first second m some =
    let rose = so_far some in omega (arith, rose, second)
busy-next terms unit front read later store before now count (Fresh len) so_far first second m some =
    let rose = so_far some in omega (arith, rose, second)
busy-next terms unit front read later store before now count Busy so_far first second m some =
    omega (arith, m.rose, first)

sum-next : (count : MergeCount) (merge : Merge) (n : ℕ) → count.merged + count.fresh + count.busy ≡ n →
    (counted count merge).merged + (counted count merge).fresh + (counted count merge).busy ≡ n + 1
sum-next count (Merged from to) n is = omega (arith, is)
sum-next count (Fresh len) n is = omega (arith, is)
sum-next count Busy n is = omega (arith, is)

-- no unit was merged yet
pub merged-none : (terms : Terms) (log : List Delta) (front : Front) (store : Store) (later : Handle) →
    AreMerged terms log front store later store 0 (record { merged = 0; fresh = 0; busy = 0 })
merged-none terms log front store later = record {
  sum = refl;
  busy = λ some. absurd (omega (arith, some));
  pages = refl;
  losses = omega arith;
  asked = tells-none store.pages (λ unit. raised) store.asked;
  fresh = λ same lossless. none-fresh store.told;
  told = λ same lossless. tells-none store.pages (caught_up terms log front) store.told;
}
  where
    none-fresh : (told : Option (IndexUnit → Version)) →
        IfSome told (λ t. 0 ≡ count_at front.len t store.pages 0)
    none-fresh None = tt
    none-fresh (Some t) = refl

-- one unit more
module _ (terms : Terms) (log : List Delta) (front : Front) (store before now : Store) (handle later : Handle) (n : ℕ)
    (count : MergeCount) (merge : Merge) (whole : front.len ≡ length log) (begins : Begins log handle.seen)
    (within : n < unit_count store.pages) (are : AreMerged terms log front store handle before n count)
    (by : MergesBy terms (unit_at store.pages n) front handle before later now (Ok merge))
    (visits : Visits (unit_at store.pages n) before now) where
  abbrev unit : IndexUnit
  unit = unit_at store.pages n

  -- where nothing more is seen after this unit, nothing was before it
  same_before : later.seen ≡ log → handle.seen ≡ log
  same_before same =
      let first = begins-length handle.seen by.read.seen by.more.begins in
      let second = begins-length by.read.seen later.seen by.reads.begins in
      let long = ap (λ (l : List Delta). length l) same in
      begins-same log handle.seen begins (omega (arith, first, second, long))

  lossless_before : now.losses < raised store.losses → before.losses < raised store.losses
  lossless_before lossless = omega (arith, lossless, visits.losses)

  both : later.seen ≡ log → now.losses < raised store.losses →
      IfSome store.told (λ told. (counted count merge).fresh ≡ count_at front.len told store.pages (n + 1))
      × TellsThrough store.pages (n + 1) (caught_up terms log front) store.told now.told
  both same lossless =
      let told = are.told (same_before same) (lossless_before lossless) in
      let fresh = are.fresh (same_before same) (lossless_before lossless) in
      let one = effect terms log front unit by.read later store before now whole same are.losses lossless count merge
      by.merges in (
        fresh-next store.pages n front.len (caught_up terms log front) store.told before.told count.fresh
            (counted count merge).fresh within told fresh one.1,
        tells-next store.pages n (caught_up terms log front) store.told before.told now.told within told
            (subst (λ pages. TellsAt pages unit (caught_up terms log front unit) before.told now.told) are.pages one.0),
      )

  pub merged-next : AreMerged terms log front store later now (n + 1) (counted count merge)
  merged-next = record {
    sum = sum-next count merge n are.sum;
    busy = busy-next terms unit front by.read later store before now count merge are.busy are.losses visits.losses
        by.merges;
    pages = visits.pages ∙ are.pages;
    losses = omega (arith, are.losses, visits.losses);
    asked = tells-next store.pages n (λ u. raised) store.asked before.asked now.asked within are.asked
        (subst (λ pages. TellsAt pages unit raised before.asked now.asked) are.pages visits.asked);
    fresh = λ same lossless. (both same lossless).0;
    told = λ same lossless. (both same lossless).1;
  }

-- where all units were passed
tells-all : {A : Type 0} (pages : ℕ) (change : IndexUnit → A → A) (before now : Option (IndexUnit → A)) →
    TellsThrough pages (unit_count pages) change before now → TellsEach pages change before now
tells-all pages change None now through = through
tells-all pages change (Some before) now (values, is, goes) = (
  values,
  is,
  λ unit is_unit.
      let within = order-within pages unit is_unit in goes.each unit is_unit ∙ grind (arith, within),
)

whole-front : (terms : Terms) (log : List Delta) (front : Front) → IsWhole terms log front → front ≡ front_of terms log
whole-front terms log front is =
    let all = take_all front.len log (omega (arith, is.whole)) in
    ap (λ len. record front { len = len }) is.whole
    ∙ ap (λ rows. record { len = length log; rows = rows; node = front.node })
    (is.stands.rows ∙ ap (rows_after terms.base) all)
    ∙ ap (λ node. record { len = length log; rows = rows_after terms.base log; node = node })
    (is.stands.node ∙ ap terms.node all)

pub merged-all : (terms : Terms) (front : Front) (store now : Store) (handle read later : Handle)
    (count : MergeCount) → SeesMore (with_look handle) read → IsWhole terms read.seen front → ReadsOn read later →
    AreMerged terms read.seen front store later now (unit_count store.pages) count →
    IsAllMerged terms handle store later now count
merged-all terms front store now handle read later count more whole reads are = record {
  sum = are.sum;
  busy = are.busy;
  asked = tells-all store.pages (λ unit. raised) store.asked now.asked are.asked;
  fresh = λ same lossless.
      subst (λ len. IfSome store.told (λ told. count.fresh ≡ count_at len told store.pages (unit_count store.pages)))
      (whole.whole ∙ ap (λ (l : List Delta). length l) (sym (nothing_more same)))
      (are.fresh (nothing_more same) lossless);
  told = λ same lossless.
      subst (λ front. TellsEach store.pages (caught_up terms later.seen front) store.told now.told)
      (whole-front terms later.seen front (subst (λ log. IsWhole terms log front) (sym (nothing_more same)) whole))
      (subst (λ log. TellsEach store.pages (caught_up terms log front) store.told now.told) (sym (nothing_more same))
      (tells-all store.pages (caught_up terms read.seen front) store.told now.told
      (are.told (nothing_more same) lossless)));
}
  where
    nothing_more : later.seen ≡ handle.seen → later.seen ≡ read.seen
    nothing_more same =
        let first = begins-length handle.seen read.seen more.begins in
        let long = ap (λ (l : List Delta). length l) same in
        begins-same read.seen later.seen reads.begins (omega (arith, first, long))
