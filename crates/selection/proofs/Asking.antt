-- What taking comes to, for a query.
use Rattle.std.proofs.Common.{◌≡◌, ℕ, zero, suc, ◌+◌, ◌-◌, ◌*◌, ◌≤◌, ◌∙◌, Bool, false, cond, List, [], ◌∷◌, length, map, take, slice_get, count_by, Option, Some, None, IfSome, is_none, refl, sym, ap, subst, arith}
use Rattle.std.specs.Option.{option_map}
use Rattle.std.proofs.lemmas.Bool.{or_right}
use Rattle.std.proofs.lemmas.List.{length-map, take_all}
use Rattle.std.proofs.lemmas.List.Sums.{sum_by-cons, sum_by-take-le}
use Rattle.cubit_base.specs.Delta.{is_insert}
use Rattle.cubit_base.specs.History.{rows_after, IsHistory}
use Rattle.cubit_base.specs.Table as table
use Rattle.cubit_base.specs.Table.{Row}
use Rattle.cubit_base.specs.Tuple.{TupleValue, IsTuple}
use Rattle.cubit_base.specs.declared.delta.Delta.{Delta}
use Rattle.cubit_base.specs.declared.predicate.Predicate.{Predicate}
use Rattle.column_bins.specs.Plan.{has_part, needs_pages}
use Rattle.column_bins.specs.declared.plan_type.Plan.{Plan}
use Rattle.commit_log.specs.Log.{Terms, IsLog, Stands, IsWhole}
use Rattle.commit_log.specs.Handle.{Handle}
use Rattle.commit_log.specs.declared.front.Front.{Front}
use Rattle.unit_version.specs.BaseValue.{BaseValue}
use Rattle.unit_version.specs.declared.unit.Unit.{Unit as IndexUnit}
use Rattle.version_store.specs.Store.{Store, RoseBy}
use Rattle.version_store.specs.Version.{Version}
use Rattle.front_patch.specs.Planned.{units_of}
use Rattle.front_patch.specs.Taken.{TakenValue, fallback_count, patched_by, table_at}
use Rattle.front_patch.specs.Takes.{Takes, TellsEach, AreTold}
use Rattle.selection.specs.Answered.{IsAnswered, IsPlanOf}
use Rattle.selection.specs.Asked.{IsAsked}
use Rattle.selection.specs.Scan.{HasTuples}

-- ---- versions in the place of claims

version-at : {Claim : Type 0} (shown : Claim → Version) (claims : List (Option Claim)) (i : ℕ) (version : Version) →
    slice_get (map (option_map shown) claims) i ≡ Some (Some version) →
    (claim : Claim) × (slice_get claims i ≡ Some (Some claim)) × (shown claim ≡ version)
version-at shown [] i version at = absurd cc
version-at shown (None ∷ claims) zero version at = absurd cc
version-at shown (Some claim ∷ claims) zero version at = (claim, refl, cc)
version-at shown (claim ∷ claims) (suc i) version at = version-at shown claims i version at

told-versions : {Claim : Type 0} (shown : Claim → Version) (units : List IndexUnit) (claims : List (Option Claim))
    (told : Option (IndexUnit → Version)) → AreTold shown units claims told →
    AreTold (λ (version : Version). version) units (map (option_map shown) claims) told
told-versions shown units claims None are = tt
told-versions shown units claims (Some told) are = λ i unit version at at-version.
    let claim = version-at shown claims i version at-version in
    sym claim.2 ∙ are i unit claim.0 at claim.1

fallbacks-map : {Claim : Type 0} (shown : Claim → Version) (claims : List (Option Claim)) →
    fallback_count (map (option_map shown) claims) ≡ fallback_count claims
fallbacks-map shown [] = refl
fallbacks-map shown (claim ∷ claims) =
    sum_by-cons (λ c. cond (is_none c) 1 0) (option_map shown claim) (map (option_map shown) claims)
    ∙ ap (λ n. cond (is_none (option_map shown claim)) 1 0 + n) (fallbacks-map shown claims)
    ∙ ap (λ b. cond b 1 0 + fallback_count claims) (same claim)
    ∙ sym (sum_by-cons (λ c. cond (is_none c) 1 0) claim claims) where
      same : (c : Option _) → is_none (option_map shown c) ≡ is_none c
      same None = refl
      same (Some c) = refl

-- ---- rows

-- a front has no fewer rows than one before it
pub rows-rise : (terms : Terms) (log : List Delta) (first front : Front) →
    ((limit : ℕ) (table : List Row) (h : List Delta) → IsHistory limit table h →
    rows_after table h ≡ length table + count_by is_insert h) → IsLog terms log → IsLog terms (take first.len log) →
    Stands terms log first → IsWhole terms log front → first.rows ≤ front.rows
rows-rise terms log first front count is is-first stands whole =
    let all : take front.len log ≡ log = take_all front.len log (omega (arith, whole.whole)) in
    omega (
      arith,
      stands.rows,
      count terms.limits.row_limit terms.base (take first.len log) is-first.history,
      sum_by-take-le (λ d. cond (is_insert d) 1 0) log first.len,
      count terms.limits.row_limit terms.base log is.history,
      whole.stands.rows,
      ap (λ h. rows_after terms.base h) all,
    )

pub whole-rows : (terms : Terms) (log : List Delta) (front : Front) → IsWhole terms log front →
    rows_after terms.base log ≡ front.rows
whole-rows terms log front whole =
    sym (whole.stands.rows ∙ ap (rows_after terms.base) (take_all front.len log (omega (arith, whole.whole))))

-- a tuple of a table whose tuples are within their ranges
pub tuples-at : (rows : List Row) → table.HasTuples rows → HasTuples rows
tuples-at [] all row t at = absurd cc
tuples-at (r ∷ rows) all zero t at = subst (λ (o : Option TupleValue). IfSome o IsTuple) at (all 0 r (omega arith))
tuples-at (r ∷ rows) all (suc row) t at = tuples-at rows (λ k d within. all (suc k) d (omega (arith, within))) row t at

-- ---- all of it

-- a query is answered once the claims are given back
answered-all : {Claim : Type 0} (terms : Terms) (p : Predicate) (sum : Bool) (tries : ℕ) (gave : Claim → Type 0)
    (shown : Claim → Version) (base : BaseValue) (handle : Handle) (store : Store) (later : Handle) (now : Store)
    (plan : Plan) (taken : TakenValue Claim) → IsPlanOf p sum plan →
    Takes terms plan tries gave shown base handle store later now taken →
    IsAnswered terms p sum tries handle store later (record now { lent = 0 }) taken.front (patched_by taken)
answered-all terms p sum tries gave shown base handle store later now plan taken plan-is takes =
    let versions = map (option_map shown) taken.claims in
    let units = ap (units_of plan) takes.pages_are in
    record {
      whole = subst (λ (log : List Delta). IsWhole terms log taken.front) takes.seen takes.whole;
      sees = takes.sees;
      plan = plan;
      plan_is = plan-is;
      first = takes.first;
      stands = subst (λ (log : List Delta). Stands terms log takes.first) takes.seen takes.stands;
      begins = takes.begins;
      asked = subst (λ (us : List IndexUnit). TellsEach store.pages us store.asked now.asked) units takes.asked;
      versions = versions;
      each = length-map taken.claims (option_map shown) ∙ takes.long ∙ ap (λ (us : List IndexUnit). length us) units;
      told =
          subst (λ (us : List IndexUnit). AreTold (λ (version : Version). version) us versions store.told) units
          (told-versions shown (units_of plan taken.pages) taken.claims store.told takes.told);
      losses =
          subst (λ n. RoseBy (tries * n) store.losses now.losses) (sym (fallbacks-map shown taken.claims)) takes.losses;
      patched_is = ap (λ n. taken.front.len - n) takes.least;
    }

pub asked-all : {Claim : Type 0} (terms : Terms) (p : Predicate) (sum cuts : Bool) (tries : ℕ) (gave : Claim → Type 0)
    (shown : Claim → Version) (base : BaseValue) (handle : Handle) (store : Store) (later : Handle) (now : Store)
    (plan : Plan) (taken : TakenValue Claim) → IsPlanOf p sum plan → cuts ≡ needs_pages p false →
    Takes terms plan tries gave shown base handle store later now taken → HasTuples (table_at terms taken) →
    taken.front.rows ≤ 16_777_216 →
    IsAsked terms p sum tries gave shown base handle store later now plan cuts taken
asked-all terms p sum cuts tries gave shown base handle store later now plan taken plan-is cuts-is takes tuples few =
    record {
      scan = record {
        over = takes.over;
        plan_is = takes.plan_is;
        stretches = plan-is.stretches;
        cuts_is = cuts-is;
        pages = λ part. plan-is.pages ∙ or_right sum (has_part p.ship) part;
        tuples = tuples;
      };
      pages = plan-is.pages;
      seen = takes.seen;
      rows = whole-rows terms taken.seen taken.front takes.whole;
      few = few;
      given = takes.over.given;
      lent = takes.lent;
      answered = answered-all terms p sum tries gave shown base handle store later now plan taken plan-is takes;
    }
