-- What the rule allows where seats are split and joined.
use Rattle.std.proofs.Common.{◌≡◌, ℕ, ◌+◌, ◌<◌, max, List, [], ◌∷◌, ◌++◌, length, set, take, sym, refl, ap, ◌∙◌, subst, get_or-set_same}
use mathlib.Core.Option.{Option, some}
use lib.ListN.{get_elem?}
use Rattle.atomic_table.specs.Table.{Splits, Joins}
use Rattle.atomic_table.proofs.Lists.{set_else, set_again}
use Rattle.cubit_base.specs.declared.delta.Delta.{Delta}
use Rattle.log_core.specs.declared.party.Party.{Party}
use Rattle.log_core.specs.declared.step.Step.TheVariants.{Note, Join}
use Rattle.log_core.specs.declared.step.Seen.TheVariants.{Done}
use Rattle.log_core.specs.Terms.{CoreTerms}
use Rattle.log_core.specs.Chain.{delta_count}
use Rattle.log_core.specs.Core.{CoreValue, newcomer, party, with_party, IsSound}
use Rattle.log_core.specs.Steps.{sees, TakesStep}
use Rattle.shared_log.specs.CoreLaws.{CoreLaws}
use Rattle.shared_log.specs.Fronts.{longer}
use Rattle.shared_log.specs.Shown.{Shows, IsRuled, new_view, view_after, noting, meeting}
use Rattle.shared_log.specs.Steps.{view_met}
use Rattle.shared_log.specs.declared.views.PassView.{PassView}
use Rattle.shared_log.specs.declared.views.SeatView.{SeatView}
use Rattle.shared_log.specs.declared.views.SeatView.TheVariants.{Pass, Date, Opening, Spent}
use Rattle.shared_log.proofs.Prefixes.{one-front, front-take, front-length}
use Rattle.shared_log.proofs.Known.{own, in-core}
use Rattle.shared_log.proofs.Ruled.{on-core}
use Rattle.shared_log.proofs.Seats.{date-law, joined, sound-joined, met-seen, shows-joined, copy-law, pass-law}

module _ (core : CoreValue) (views : List SeatView) (seat : ℕ) (view : PassView) (s : IsSound core)
    (shows : Shows core core.words views) (at : get_elem? views seat ≡ some (Pass view)) where
  abbrev p : ℕ
  p = view.author

  abbrev noted : CoreValue
  noted = record core { noted = max core.noted (party core p).seen }

  takes-note : TakesStep core p Note Done noted
  takes-note = record { party = in-core core core.words views seat view s shows at; gives = (refl, refl) }

  -- a note shows the party nothing
  noted-view : view_after noted view Note Done ≡ noting view
  noted-view =
      let f = own core core.words views seat view s shows at in
      let same = one-front core.chain.history (take (party core p).seen core.chain.history) view.seen
      (party core p).seen
      (front-take core.chain.history (party core p).seen
      (front-length core.chain.history view.seen (party core p).seen f.seen)) f.seen in
      λ i. record {
        author = view.author;
        seen = same i;
        reached = sym f.reached i;
        last = sym f.last i;
        used = sym f.used i;
        trace = view.trace ++ record { step = Note; gave = Done } ∷ [];
        had = [];
        met = [];
      }

  pub ruled-noted : CoreLaws → (homes : List (Option Delta)) → IsRuled core.terms record {
    words = core.words;
    homes = homes;
    views = set views seat (Pass (noting view)) ++ Date view.seen ∷ [];
  }
  ruled-noted laws homes =
      let law = date-law laws core noted core.words views seat view Done s shows at takes-note in record {
        core = noted;
        terms_are = refl;
        sound = law.0;
        shows = subst (λ (v : PassView). Shows noted core.words (set views seat (Pass v) ++ Date view.seen ∷ []))
            noted-view law.1;
      }

  -- a join shows the party what the date names
  joined-view : (f : List Delta) →
      let next : CoreValue = with_party core p (sees (party core p) (delta_count f)) in
      (view_met next view f).seen ≡ longer view.seen f → view_met next view f ≡ meeting view f
  joined-view f seen =
      let own_view = own core core.words views seat view s shows at in
      let x : Party = sees (party core p) (delta_count f) in
      let now = get_or-set_same core.parties p x newcomer (in-core core core.words views seat view s shows at) in
      λ i. record {
        author = view.author;
        seen = seen i;
        reached = (ap (λ (y : Party). y.reached) now ∙ sym own_view.reached) i;
        last = (ap (λ (y : Party). y.last) now ∙ sym own_view.last) i;
        used = (ap (λ (y : Party). y.used) now ∙ sym own_view.used) i;
        trace = view.trace ++ record { step = Join (delta_count f); gave = Done } ∷ [];
        had = view.seen;
        met = f;
      }

  pub ruled-joined : CoreLaws → (homes : List (Option Delta)) (other : ℕ) (f : List Delta) →
      get_elem? views other ≡ some (Date f) → IsRuled core.terms record {
        words = core.words;
        homes = homes;
        views = set (set views seat (Pass (meeting view f))) other Spent;
      }
  ruled-joined laws homes other f there =
      let next : CoreValue = joined laws core core.words views seat other view f s shows at there in record {
        core = next;
        terms_are = refl;
        sound = sound-joined laws core core.words views seat other view f s shows at there;
        shows = subst (λ (v : PassView). Shows next core.words (set (set views seat (Pass v)) other Spent))
            (joined-view f (met-seen laws core core.words views seat other view f s shows at there))
            (shows-joined laws core core.words views seat other view f s shows at there);
      }

pub splits-date : CoreLaws → (terms : CoreTerms) (seat : ℕ) (view : PassView) →
    Splits (IsRuled terms) seat (Pass view) (Pass (noting view)) (Date view.seen)
splits-date laws terms seat view state r at =
    on-core
    (λ t st. get_elem? st.views seat ≡ some (Pass view) → IsRuled t record {
      words = st.words;
      homes = st.homes;
      views = set st.views seat (Pass (noting view)) ++ Date view.seen ∷ [];
    })
    (λ core homes views s shows at. ruled-noted core views seat view s shows at laws homes) terms state r at

pub splits-copy : (terms : CoreTerms) (seat : ℕ) (f : List Delta) →
    Splits (IsRuled terms) seat (Date f) (Date f) (Date f)
splits-copy terms seat f state r at = record {
  core = r.core;
  terms_are = r.terms_are;
  sound = r.sound;
  shows = subst (λ (vs : List SeatView). Shows r.core state.words (vs ++ Date f ∷ []))
      (sym (set_again state.views seat (Date f) at))
      (copy-law r.core state.words state.views seat f r.shows at);
}

pub splits-pass : (terms : CoreTerms) (seat n : ℕ) → n < length terms.shares →
    Splits (IsRuled terms) seat (Opening n) (Opening (n + 1)) (Pass (new_view n))
splits-pass terms seat n room state r at = record {
  core = r.core;
  terms_are = r.terms_are;
  sound = r.sound;
  shows = pass-law r.core state.words state.views seat n r.shows at
      (subst (λ (t : CoreTerms). n < length t.shares) (sym r.terms_are) room);
}

pub joins-date : CoreLaws → (terms : CoreTerms) (seat : ℕ) (view : PassView) (other : ℕ) (f : List Delta) →
    Joins (IsRuled terms) seat (Pass view) other (Date f) (Pass (meeting view f)) Spent
joins-date laws terms seat view other f state r at apart there =
    on-core
    (λ t st. get_elem? st.views seat ≡ some (Pass view) → get_elem? st.views other ≡ some (Date f) →
    IsRuled t record {
      words = st.words;
      homes = st.homes;
      views = set (set st.views seat (Pass (meeting view f))) other Spent;
    })
    (λ core homes views s shows at there. ruled-joined core views seat view s shows at laws homes other f there)
    terms state r at (sym (set_else state.views seat other (Pass (meeting view f)) apart) ∙ there)
