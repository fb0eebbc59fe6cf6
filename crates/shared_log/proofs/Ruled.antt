-- A step on the table, where the rule shows a core.
use Rattle.std.proofs.Common.{◌≡◌, ℕ, List, get_or, set, sym, ◌∙◌, subst}
use mathlib.Core.Option.{Option, some}
use lib.ListN.{get_elem?}
use lib.Seq.{set-get_or}
use Rattle.atomic_table.specs.Table.{State, Me, keeps, stepped}
use Rattle.cubit_base.specs.declared.delta.Delta.{Delta}
use Rattle.log_core.specs.declared.step.Step.{Step}
use Rattle.log_core.specs.declared.step.Seen.{Seen}
use Rattle.log_core.specs.Terms.{CoreTerms}
use Rattle.log_core.specs.Core.{CoreValue, IsSound}
use Rattle.log_core.specs.Steps.{TakesStep}
use Rattle.shared_log.specs.Shown.{Shows, IsRuled, view_after}
use Rattle.shared_log.specs.declared.views.PassView.{PassView}
use Rattle.shared_log.specs.declared.views.SeatView.{SeatView}
use Rattle.shared_log.specs.declared.views.SeatView.TheVariants.{Pass}
use Rattle.shared_log.specs.CoreLaws.{CoreLaws}
use Rattle.shared_log.proofs.Law.{step-law}

abbrev pub Table : Type 0
Table = State Delta SeatView

-- the table whose words are the core's
abbrev pub table_of : CoreValue → List (Option Delta) → List SeatView → Table
table_of core homes views = record { words = core.words; homes = homes; views = views }

-- what holds wherever a core is shown holds of each table that keeps the rule
pub on-core : (Goal : CoreTerms → Table → Type 0) →
    ((core : CoreValue) (homes : List (Option Delta)) (views : List SeatView) → IsSound core →
    Shows core core.words views → Goal core.terms (table_of core homes views)) →
    (terms : CoreTerms) (state : Table) → IsRuled terms state → Goal terms state
on-core Goal each terms state r =
    let here = each r.core state.homes state.views r.sound
    (subst (λ ws. Shows r.core ws state.views) (sym r.shows.words_are) r.shows) in
    subst (λ t. Goal t state) r.terms_are
    (subst (λ ws. Goal r.core.terms record { words = ws; homes = state.homes; views = state.views })
    r.shows.words_are here)

module _ (laws : CoreLaws) (core next : CoreValue) (homes : List (Option Delta)) (views : List SeatView) (seat : ℕ)
    (view : PassView) (step : Step) (gave : Seen) (s : IsSound core) (shows : Shows core core.words views)
    (at : get_elem? views seat ≡ some (Pass view)) (takes : TakesStep core view.author step gave next)
    (same : next.terms ≡ core.terms) where
  pub ruled-after : IsRuled core.terms record {
    words = next.words;
    homes = homes;
    views = set views seat (Pass (view_after next view step gave));
  }
  ruled-after =
      let law = step-law laws step core next core.words views seat view gave s shows at takes in record {
        core = next;
        terms_are = same;
        sound = law.0;
        shows = law.1;
      }

  -- a step that writes back what it found
  pub ruled-unmoved : next.words ≡ core.words → (i : ℕ) (me : Me Delta SeatView) →
      IsRuled core.terms (stepped (table_of core homes views) i (get_or core.words i 0) seat me.1
      (Pass (view_after next view step gave)) keeps)
  ruled-unmoved words i me =
      subst (λ (ws : List ℕ). IsRuled core.terms record {
        words = ws;
        homes = homes;
        views = set views seat (Pass (view_after next view step gave));
      }) (words ∙ sym (set-get_or core.words i 0)) ruled-after
