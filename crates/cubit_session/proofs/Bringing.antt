-- By how many deltas a query's units are brought on, where all stand at one merge.
use Rattle.std.proofs.Common.{◌≡◌, ℕ, zero, suc, ◌+◌, ◌-◌, ◌*◌, ◌^◌, ◌≤◌, ◌<◌, ◌==◌, Bool, true, false, List, [], ◌∷◌, ◌++◌, length, take, slice_get, count_by, min, All, Option, Some, None, IfSome, is_none, if◌then◌else◌, refl, sym, ap, ◌∙◌, subst, arith, get_or}
use Rattle.std.specs.List.{fold}
use Rattle.std.proofs.Math.Nat.{mul-suc}
use Rattle.std.proofs.lemmas.Bool.{cond-false}
use Rattle.std.proofs.lemmas.Option.{none-some, slice_get-get_or}
use Rattle.cubit_base.specs.History.{after}
use Rattle.cubit_base.specs.declared.delta.Delta.{Delta}
use Rattle.cubit_base.specs.declared.predicate.Predicate.{Predicate}
use Rattle.column_bins.specs.Plan.{unit_count}
use Rattle.column_bins.specs.declared.plan_type.Plan.{Plan}
use Rattle.commit_log.specs.Log.{Terms, Stands}
use Rattle.commit_log.specs.declared.front.Front.{Front}
use Rattle.unit_version.specs.Unit.{IsUnit}
use Rattle.unit_version.specs.declared.unit.Unit.{Unit as IndexUnit}
use Rattle.unit_version.specs.declared.unit.Unit.TheVariants.{Live}
use Rattle.wah_words.specs.Place.{page_count}
use Rattle.version_store.specs.Store.{RoseBy}
use Rattle.version_store.specs.Version.{Version}
use Rattle.front_patch.specs.Taken.{fallback_count}
use Rattle.front_patch.specs.Takes.{AreTold, length_of, least_length}
use Rattle.selection.specs.Answered.{IsPlanOf, IsAnswered, units_at}
use Rattle.cubit_session.specs.Step.{Told}
use Rattle.cubit_session.specs.Alone.{StandsAt, patched_alone}

-- no turn was lost, so each unit has a version
none-lost : (tries fallbacks : ℕ) → 1 ≤ tries → RoseBy (tries * fallbacks) 0 0 → fallbacks ≡ 0
none-lost tries zero some rose = refl
none-lost tries (suc k) some rose =
    let more = mul-suc tries k in absurd (omega (arith, some, rose, more))

no-fewer : (n : ℕ) (versions : List (Option Version)) →
    n ≤ fold (λ count (v : Option Version). count + (if is_none v then 1 else 0)) n versions
no-fewer n [] = omega arith
no-fewer n (None ∷ versions) = let rest = no-fewer (n + 1) versions in omega (arith, rest)
no-fewer n (Some x ∷ versions) = let rest = no-fewer (n + 0) versions in omega (arith, rest)

none-first : (versions : List (Option Version)) → 1 ≤ count_by is_none (None ∷ versions)
none-first versions = no-fewer 1 versions

some-first : (x : Version) (versions : List (Option Version)) →
    count_by is_none (Some x ∷ versions) ≡ count_by is_none versions
some-first x versions = refl

has-none : (versions : List (Option Version)) (i : ℕ) → i < length versions → get_or versions i None ≡ None →
    1 ≤ count_by is_none versions
has-none [] i within is = absurd (omega (arith, within))
has-none (None ∷ versions) zero within is = none-first versions
has-none (Some x ∷ versions) zero within is = absurd (none-some x (sym is))
has-none (None ∷ versions) (suc i) within is = none-first versions
has-none (Some x ∷ versions) (suc i) within is =
    subst (λ n. 1 ≤ n) (sym (some-first x versions)) (has-none versions i (omega (arith, within)) is)

-- the least of lengths that are all the same
least-all : (versions : List (Option Version)) (least merged : ℕ) → merged ≤ least →
    ((i : ℕ) → i < length versions → length_of (get_or versions i None) ≡ merged) →
    least_length least versions ≡ (if length versions == 0 then least else merged)
least-all [] least merged low same = refl
least-all (v ∷ versions) least merged low same =
    let first : min least (length_of v) ≡ merged = let is = same 0 (omega arith) in omega (arith, is, low) in
    ap (λ l. fold (λ a x. min a (length_of x)) l versions) first
    ∙ least-all versions merged merged (omega arith) (λ i within. same (suc i) (omega (arith, within)))
    ∙ by (length versions == 0)
    ∙ sym (cond-false {A = ℕ} (suc (length versions) == 0) least merged (grind arith)) where
      by : (b : Bool) → (if b then merged else merged) ≡ merged
      by true = refl
      by false = refl

module _ (terms : Terms) (tries : ℕ) (p : Predicate) (sum : Bool) (before now : Told) (front : Front)
    (patched merged : ℕ) (some : 1 ≤ tries) (is : IsAnswered terms p sum tries before.log before.store now.log now.store
    front patched) (same : now.log.seen ≡ before.log.seen) (none : now.store.losses ≡ 0) (at : StandsAt before merged)
    (units : All (IsUnit before.store.pages) (units_at is.plan is.first))
    (count : length (units_at is.plan is.first) ≡ unit_count p sum is.first.rows) where
  long : length now.log.seen ≡ length before.log.seen
  long = ap (λ (l : List Delta). length l) same

  first-len : is.first.len ≡ length before.log.seen
  first-len = omega (arith, long, is.begins, is.stands.within)

  lossless : fallback_count is.versions ≡ 0
  lossless = none-lost tries (fallback_count is.versions) some
      (subst (λ a. RoseBy (tries * fallback_count is.versions) a 0) at.lossless
      (subst (RoseBy (tries * fallback_count is.versions) before.store.losses) none is.losses))

  -- each version stands at the last merge
  told : AreTold (λ version. version) (units_at is.plan is.first) is.versions (Some at.version)
  told = subst (AreTold (λ version. version) (units_at is.plan is.first) is.versions) at.told_is is.told

  lengths : (i : ℕ) → i < length is.versions → length_of (get_or is.versions i None) ≡ merged
  lengths i within = by (get_or is.versions i None) refl where
    by : (v : Option Version) → get_or is.versions i None ≡ v → length_of v ≡ merged
    by None gets = let some = has-none is.versions i within gets in absurd (omega (arith, some, lossless))
    by (Some x) gets =
        let low : i < length (units_at is.plan is.first) = omega (arith, within, is.each) in
        let unit = get_or (units_at is.plan is.first) i Live in
        let shown = told i unit x (slice_get-get_or (units_at is.plan is.first) i Live low)
        (slice_get-get_or is.versions i None within ∙ ap Some gets) in
        ap (λ (v : Version). v.front.len) shown ∙ at.each unit (units i Live low)

  -- the rows before the query
  abbrev rows : ℕ
  rows = length (after terms.base (take (length before.log.seen) now.log.seen))

  rows-are : is.first.rows ≡ rows
  rows-are = is.stands.rows ∙ ap (λ n. length (after terms.base (take n now.log.seen))) first-len

  pub patched-is : patched ≡ patched_alone p sum rows (record { placed = length before.log.seen; merged = merged })
  patched-is =
      let least = least-all is.versions is.first.len merged (omega (arith, first-len, at.within)) lengths in
      let number : length is.versions ≡ unit_count p sum rows =
      is.each ∙ count ∙ ap (unit_count p sum) rows-are in
      is.patched_is ∙ by (length is.versions == 0) refl least
      ∙ ap (λ n. if n == 0 then 0 else length before.log.seen - merged) number where
        by : (b : Bool) → (length is.versions == 0) ≡ b →
            least_length is.first.len is.versions ≡ (if length is.versions == 0 then is.first.len else merged) →
            front.len - least_length is.first.len is.versions
            ≡ (if length is.versions == 0 then 0 else length before.log.seen - merged)
        by true none least = grind (arith, none, least, first-len, long, is.whole.whole)
        by false none least = grind (arith, none, least, first-len, long, is.whole.whole)
