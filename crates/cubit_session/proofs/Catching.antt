-- A merge of all units, where all stand at one merge before.
use Rattle.std.proofs.Common.{◌≡◌, ℕ, zero, suc, ◌+◌, ◌-◌, ◌^◌, ◌≤◌, ◌<◌, ◌==◌, Bool, true, false, List, length, min, Option, Some, None, IfSome, if◌then◌else◌, inl, inr, refl, sym, ap, ◌∙◌, subst, arith}
use Rattle.std.proofs.lemmas.Bool.{cases_lt, eqb-true}
use Rattle.cubit_base.specs.declared.delta.Delta.{Delta}
use Rattle.commit_log.specs.Log.{Terms}
use Rattle.unit_version.specs.Unit.{IsUnit, unit_count}
use Rattle.unit_version.specs.declared.unit.Unit.{Unit as IndexUnit}
use Rattle.version_store.specs.Version.{Version}
use Rattle.merger.specs.Merge.{version_at}
use Rattle.merger.specs.Order.{unit_at, count_units}
use Rattle.merger.specs.All.{IsAllMerged, TellsEach, caught_up, count_at, front_of}
use Rattle.merger.specs.declared.outcome.MergeCount.{MergeCount}
use Rattle.cubit_session.specs.Step.{Told}
use Rattle.cubit_session.specs.Alone.{StandsAt, MergesAlone}

is-unit : (pages place : ℕ) → place < unit_count pages → IsUnit pages (unit_at pages place)
is-unit pages place within = grind (arith, within)

count-same : (value : IndexUnit → Version) (pages len merged n : ℕ) → n ≤ unit_count pages →
    ((unit : IndexUnit) → IsUnit pages unit → (value unit).front.len ≡ merged) →
    count_units (λ unit. (value unit).front.len == len) pages n ≡ (if merged == len then n else 0)
count-same value pages len merged zero few same = by (merged == len) where
  by : (b : Bool) → ◌≡◌ {A = ℕ} 0 (if b then 0 else 0)
  by true = refl
  by false = refl
count-same value pages len merged (suc n) few same =
    ap (λ k. k + (if (value (unit_at pages n)).front.len == len then 1 else 0))
    (count-same value pages len merged n (omega (arith, few)) same)
    ∙ ap (λ l. (if merged == len then n else 0) + (if l == len then 1 else 0))
    (same (unit_at pages n) (is-unit pages n (omega (arith, few))))
    ∙ by (merged == len) where
      by : (b : Bool) → (if b then n else 0) + (if b then 1 else 0) ≡ (if b then suc n else 0)
      by true = omega arith
      by false = omega arith

module _ (terms : Terms) (before now : Told) (merged : ℕ) (count : MergeCount)
    (is : IsAllMerged terms before.log before.store now.log now.store count)
    (same : now.log.seen ≡ before.log.seen) (none : now.store.losses ≡ 0) (at : StandsAt before merged) where
  long : length now.log.seen ≡ length before.log.seen
  long = ap (λ (l : List Delta). length l) same

  lossless : now.store.losses < min (before.store.losses + 1) (2 ^ 64 - 1)
  lossless = omega (arith, at.lossless, none)

  fresh-is : count.fresh ≡ (if merged == length before.log.seen then unit_count before.store.pages else 0)
  fresh-is =
      subst (λ told. IfSome told (λ t. count.fresh ≡ count_at (length now.log.seen) t before.store.pages
      (unit_count before.store.pages))) at.told_is (is.fresh same lossless)
      ∙ count-same at.version before.store.pages (length now.log.seen) merged (unit_count before.store.pages)
      (omega arith) at.each
      ∙ ap (λ n. if merged == n then unit_count before.store.pages else 0) long

  none-busy : count.busy ≡ 0
  none-busy = elim (cases_lt 0 count.busy) [
    | inl some ↦ let rose = is.busy some in absurd (omega (arith, rose, at.lossless, none))
    | inr few ↦ omega (arith, few)
  ]

  pub merges : MergesAlone (unit_count before.store.pages) (record { placed = length before.log.seen; merged = merged })
      count.merged count.fresh count.busy
  merges = record {
    merged_is = by (merged == length before.log.seen) fresh-is;
    fresh_is = fresh-is;
    busy_is = none-busy;
  } where
    by : (b : Bool) → count.fresh ≡ (if b then unit_count before.store.pages else 0) →
        count.merged ≡ (if b then 0 else unit_count before.store.pages)
    by true fresh = omega (arith, fresh, is.sum, none-busy)
    by false fresh = omega (arith, fresh, is.sum, none-busy)

  -- all stand at what was seen
  told : TellsEach before.store.pages (caught_up terms now.log.seen (front_of terms now.log.seen)) (Some at.version)
      now.store.told
  told = subst (λ t. TellsEach before.store.pages (caught_up terms now.log.seen (front_of terms now.log.seen)) t
      now.store.told) at.told_is (is.told same lossless)

  caught : (unit : IndexUnit) (version : Version) →
      (caught_up terms now.log.seen (front_of terms now.log.seen) unit version).front.len ≡ length before.log.seen
  caught unit version = by (version.front.len == length now.log.seen) refl ∙ long where
    by : (b : Bool) → (version.front.len == length now.log.seen) ≡ b →
        (if b then version else version_at terms now.log.seen unit (front_of terms now.log.seen)).front.len
        ≡ length now.log.seen
    by true is = eqb-true version.front.len (length now.log.seen) is
    by false is = refl

  pub catches : now.store.pages ≡ before.store.pages → StandsAt now (length before.log.seen)
  catches pages = record {
    within = omega (arith, long);
    lossless = none;
    version = told.0;
    told_is = told.1;
    each = λ unit is_unit.
        ap (λ (v : Version). v.front.len) (told.2 unit (subst (λ n. IsUnit n unit) pages is_unit))
        ∙ caught unit (at.version unit);
  }
