-- What taking comes to.
use Rattle.std.proofs.Common.{◌≡◌, ℕ, ◌-◌, ◌*◌, ◌≤◌, ◌∙◌, Bool, true, false, List, length, map, get_or, if◌then◌else◌, Option, Some, None, IfSome, refl, ap, arith}
use Rattle.std.specs.Option.{option_map}
use Rattle.std.proofs.lemmas.Option.{slice_get-get_or}
use Rattle.std.proofs.lemmas.Bool.{cond-true}
use Rattle.cubit_base.specs.declared.delta.Delta.{Delta}
use Rattle.commit_log.specs.Log.{Terms, Stands, IsWhole}
use Rattle.commit_log.specs.Handle.{Handle, Begins, SeesMore, with_look}
use Rattle.commit_log.specs.declared.front.Front.{Front}
use Rattle.column_bins.specs.declared.plan_type.Plan.{Plan}
use Rattle.unit_version.specs.BaseValue.{BaseValue}
use Rattle.unit_version.specs.Unit.{IsUnit}
use Rattle.unit_version.specs.declared.unit.Unit.{Unit as IndexUnit}
use Rattle.commit_log.specs.Growing.{begins-length}
use Rattle.unit_version.specs.declared.unit.Unit.TheVariants.{Live}
use Rattle.version_store.specs.Lasting.{fits-last}
use Rattle.version_store.specs.Store.{Store}
use Rattle.version_store.specs.Version.{Version, Fits}
use Rattle.wah_words.specs.Place.{page_count}
use Rattle.front_patch.specs.Holding.{HoldsEach, AreFitting, AreAtFronts}
use Rattle.front_patch.specs.Planned.{FitsColumns, units_of}
use Rattle.front_patch.specs.Taken.{Serves}
use Rattle.front_patch.specs.Takes.{Takes, SeesAndCounts, with_walks, pages_of, least_length, length_of}
use Rattle.front_patch.proofs.Climbing.{all-units}
use Rattle.front_patch.proofs.Least.{least-at}
use Rattle.front_patch.proofs.Sees.{begins-on}
use Rattle.front_patch.proofs.Slots.{all-at}

-- what versions that fit stand at
fits-one : {Claim : Type 0} (terms : Terms) (log : List Delta) (unit : IndexUnit) (shown : Claim → Version)
    (claim : Option Claim) → ((c : Claim) → claim ≡ Some c → Fits terms log unit (shown c)) →
    IfSome claim (λ c. Stands terms log (shown c).front)
fits-one terms log unit shown None fits = tt
fits-one terms log unit shown (Some c) fits = (fits c refl).stands

pub at-fronts : {Claim : Type 0} (terms : Terms) (log : List Delta) (units : List IndexUnit) (shown : Claim → Version)
    (claims : List (Option Claim)) → length claims ≡ length units → AreFitting terms log units shown claims →
    AreAtFronts terms log shown claims
at-fronts terms log units shown claims long fits k d within =
    fits-one terms log (get_or units k Live) shown (get_or claims k d)
    (λ c is. fits k (get_or units k Live) c (slice_get-get_or units k Live (omega (arith, within, long)))
    (slice_get-get_or claims k d within ∙ ap Some is))

-- ---- pages

few-if : (some : Bool) (n : ℕ) → (if some then n else 0) ≤ n
few-if true n = omega arith
few-if false n = omega arith

pub few-pages : (plan : Plan) (rows : ℕ) → pages_of plan rows ≤ page_count rows
few-pages plan rows = few-if plan.pages (page_count rows)

pub all-pages : (plan : Plan) (rows : ℕ) → plan.pages ≡ true → rows ≤ 3968 * pages_of plan rows
all-pages plan rows is = omega (arith, cond-true plan.pages (page_count rows) 0 is)

-- ---- the handle

pub sees-all : (n : ℕ) (before looked held last : Handle) → SeesMore (with_look before) looked → SeesMore looked held →
    SeesMore (with_walks n (with_look held)) last → SeesAndCounts n before last
sees-all n before looked held last first second third = record {
  is = third.is ∙ ap (λ (h : Handle). record (with_walks n (with_look h)) { seen = last.seen })
      (second.is ∙ ap (λ (h : Handle). record h { seen = held.seen }) first.is);
  begins = begins-on before.seen looked.seen last.seen first.begins
      (begins-on looked.seen held.seen last.seen second.begins third.begins);
  mine = third.mine ∙ second.mine ∙ first.mine;
}

-- ---- what serves the units

serves-one : {Claim : Type 0} (terms : Terms) (log longer : List Delta) (least : ℕ) (unit : IndexUnit)
    (shown : Claim → Version) (claim : Option Claim) → Begins log longer →
    ((c : Claim) → claim ≡ Some c → Fits terms log unit (shown c)) → least ≤ length_of (option_map shown claim) →
    Serves terms longer least unit (option_map shown claim)
serves-one terms log longer least unit shown None begins fits short = omega (arith, short)
serves-one terms log longer least unit shown (Some c) begins fits short =
    (fits-last terms log longer unit (shown c) begins (fits c refl), short)

-- ---- all of it

pub takes-all : {Claim : Type 0} (terms : Terms) (plan : Plan) (tries : ℕ) (gave : Claim → Type 0)
    (shown : Claim → Version) (base : BaseValue) (before looked held last : Handle) (store later : Store)
    (first front : Front) (least pages : ℕ) (claims : List (Option Claim)) → FitsColumns plan → base.table ≡
    terms.base →
    pages ≡ pages_of plan first.rows → pages ≤ page_count base.row_room →
    SeesMore (with_look before) looked → IsWhole terms looked.seen first →
    SeesMore looked held →
    HoldsEach terms held.seen tries (units_of plan pages) gave shown store later claims →
    SeesMore (with_walks (front.len - least) (with_look held)) last → IsWhole terms last.seen front →
    least ≡ least_length first.len (map (option_map shown) claims) →
    Stands terms last.seen first →
    Takes terms plan tries gave shown base before store last later (record {
      seen = last.seen;
      front = front;
      least = least;
      plan = plan;
      pages = pages;
      claims = claims;
    })
takes-all terms plan tries gave shown base before looked held last store later first front least pages claims columns
    table pages-are room
    first-looks first-whole holds-more holds last-looks last-whole least-is stands =
    let units = units_of plan pages in
    record {
      over = record {
        given = holds.given;
        units = λ i unit at. all-at (IsUnit (page_count base.row_room)) units i unit
            (all-units (page_count base.row_room) plan pages columns room) at;
        serve = λ i unit claim at at-claim.
            serves-one terms held.seen last.seen least unit shown claim last-looks.begins
            (λ c is. holds.fitting i unit c at (at-claim ∙ ap Some is))
            (omega (arith, least-is, least-at shown first.len claims i claim at-claim));
        table = table;
      };
      seen = refl;
      whole = last-whole;
      sees = sees-all (front.len - least) before looked held last first-looks holds-more last-looks;
      plan_is = refl;
      first = first;
      stands = stands;
      begins = omega (arith, begins-length before.seen looked.seen first-looks.begins, first-whole.whole);
      pages_are = pages-are;
      long = holds.long;
      least = least-is;
      told = holds.told;
      asked = holds.asked;
      lent = holds.lent;
      losses = holds.losses;
    }
