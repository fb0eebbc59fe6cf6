-- A log as it is made shows the core before any step.
use Rattle.std.proofs.Common.{◌≡◌, ℕ, zero, suc, ◌+◌, ◌*◌, ◌<◌, ◌≤◌, List, [], ◌∷◌, length, get_or, replicate, sym, refl, ap, subst, arith}
use mathlib.Core.Option.{some, some-injective, some-ne-none}
use lib.ListN.{get_elem?}
use Rattle.log_core.specs.declared.party.Party.{Party}
use Rattle.log_core.specs.Terms.{CoreTerms, node_count, first_node}
use Rattle.log_core.specs.Chain.{link, IsNodeAt, end_at, payload_place}
use Rattle.log_core.specs.Core.{CoreValue, newcomer, party, made_core, IsSound}
use Rattle.log_core.specs.Growing.{behind}
use Rattle.shared_log.specs.Shown.{ShowsSeat, Shows}
use Rattle.shared_log.specs.declared.views.PassView.{PassView}
use Rattle.shared_log.specs.declared.views.SeatView.{SeatView}
use Rattle.shared_log.specs.declared.views.SeatView.TheVariants.{Pass, Opening}
use Rattle.shared_log.proofs.Known.{own, in-core}

-- the same everywhere, past the end too
same-all : {X : Type 0} (n i : ℕ) (x : X) → get_or (replicate n x) i x ≡ x
same-all zero i x = refl
same-all (suc n) zero x = refl
same-all (suc n) (suc i) x = same-all n i x

module _ (terms : CoreTerms) where
  new-party : (p : ℕ) → party (made_core terms) p ≡ newcomer
  new-party p = same-all (length terms.shares) p newcomer

  first-shows : (seat : ℕ) (view : SeatView) → get_elem? (Opening 0 ∷ []) seat ≡ some view →
      ShowsSeat (made_core terms) 0 (λ a. 0) seat view
  first-shows zero view e =
      subst (ShowsSeat (made_core terms) 0 (λ a. 0) 0) (some-injective (Opening 0) view e) (refl, refl)
  first-shows (suc seat) view e = absurd (some-ne-none view (sym e))

  pub made-shows : Shows (made_core terms) (made_core terms).words (Opening 0 ∷ [])
  made-shows = record {
    given = 0;
    seats = λ a. 0;
    words_are = refl;
    within = omega arith;
    each = first-shows;
    has = λ a lt. absurd (omega arith);
    idle = λ a ge ina. record {
      seen = ap (λ (x : Party). x.seen) (new-party a);
      reached = ap (λ (x : Party). x.reached) (new-party a);
      last = ap (λ (x : Party). x.last) (new-party a);
      used = ap (λ (x : Party). x.used) (new-party a);
      blank = λ i w lt small.
          same-all (5 * node_count terms + 1) (payload_place (first_node terms a + i) w) 0;
    };
  }

abbrev pub Loaded : Type 0
Loaded = (core : CoreValue) (p : ℕ) → IsSound core → p < length core.parties →
    (place : ℕ) × IsNodeAt core.chain (behind (party core p).last (link core.words (party core p).last)) place
    × ((party core p).low ≤ end_at core.chain.history place)

pub front-has : Loaded → (core : CoreValue) (words : List ℕ) (views : List SeatView) (seat : ℕ) (view : PassView) →
    IsSound core → Shows core words views → get_elem? views seat ≡ some (Pass view) →
    (place : ℕ) × IsNodeAt core.chain (behind view.last (link core.words view.last)) place
    × ((party core view.author).low ≤ end_at core.chain.history place)
front-has loaded core words views seat view s shows at =
    let same = sym (own core words views seat view s shows at).last in
    subst (λ t. (place : ℕ) × IsNodeAt core.chain (behind t (link core.words t)) place
    × ((party core view.author).low ≤ end_at core.chain.history place)) same
    (loaded core view.author s (in-core core words views seat view s shows at))
