-- What a pass knows is so in each core that is shown.
use Rattle.std.proofs.Common.{◌≡◌, ℕ, zero, suc, ◌+◌, ◌<◌, ◌≤◌, List, length, sym, refl, ap, ◌∙◌, arith, length-append}
use Rattle.std.specs.List.{count_by}
use mathlib.Core.Option.{some}
use lib.ListN.{get_elem?}
use Rattle.cubit_base.specs.declared.delta.Delta.{Delta}
use Rattle.log_core.specs.Terms.{CoreTerms, first_node}
use Rattle.log_core.specs.Chain.{node_at, IsNodeAt, entry_count, end_at, is_by}
use Rattle.log_core.specs.Core.{CoreValue, party, IsSound}
use Rattle.shared_log.specs.Fronts.{IsFront, node_in}
use Rattle.shared_log.specs.Shown.{ShowsPass, Shows}
use Rattle.shared_log.specs.Steps.{Knows}
use Rattle.shared_log.specs.declared.views.PassView.{PassView}
use Rattle.shared_log.specs.declared.views.SeatView.{SeatView}
use Rattle.shared_log.specs.declared.views.SeatView.TheVariants.{Pass}
use Rattle.shared_log.proofs.Ends.{take-front, delta_at-front, end_at-front, end_at-within}

-- a front has the log's nodes
pub node_in-front : (terms : CoreTerms) (h f : List Delta) (n k : ℕ) → IsFront h f n → k ≤ length f →
    node_in terms f k ≡ node_in terms h k
node_in-front terms h f n zero i le = refl
node_in-front terms h f n (suc k) i le =
    let a = delta_at-front h f n k i (omega arith) in let b = take-front h f n k i (omega arith) in
    λ t. first_node terms (a t).author + count_by (is_by (a t).author) (b t)

-- the nodes of the chain are those of its history
pub node_in-chain : (core : CoreValue) → IsSound core → (k : ℕ) → k ≤ entry_count core.chain.history →
    node_at core.chain k ≡ node_in core.terms core.chain.history k
node_in-chain core s zero le = s.linked.head
node_in-chain core s (suc k) le =
    let up : suc k ≡ k + 1 = omega arith in ap (node_at core.chain) up ∙ s.filled.nodes k (omega arith)

module _ (core : CoreValue) (s : IsSound core) (f : List Delta) (n : ℕ) (i : IsFront core.chain.history f n) where
  pub front-within : length f ≤ entry_count core.chain.history
  front-within = omega (arith, length-append f i.begins.0, ap (λ (z : List Delta). length z) i.begins.1)

  pub node-at-front : (node k : ℕ) → k ≤ length f → node ≡ node_in core.terms f k → IsNodeAt core.chain node k
  node-at-front node k le is = let count = s.linked.count in let short = front-within in record {
    within = omega arith;
    is = node_in-chain core s k (omega arith)
        ∙ sym (node_in-front core.terms core.chain.history f n k i le) ∙ sym is;
  }

module _ (core : CoreValue) (words : List ℕ) (views : List SeatView) (seat : ℕ) (view : PassView) (s : IsSound core)
    (shows : Shows core words views) (at : get_elem? views seat ≡ some (Pass view)) where
  pub own : ShowsPass core shows.given shows.seats seat view
  own = shows.each seat (Pass view) at

  pub in-core : view.author < length core.parties
  in-core = let a = own.author in let b = shows.within in let c = s.party_count in omega arith

  pub in-shares : view.author < length core.terms.shares
  in-shares = let a = own.author in let b = shows.within in omega arith

  pub known-at : (node k : ℕ) → Knows core.terms view node k → IsNodeAt core.chain node k
  known-at node k kn = node-at-front core s view.seen (party core view.author).seen own.seen node k kn.within kn.is

  pub known-end : (node k : ℕ) → Knows core.terms view node k → end_at core.chain.history k ≡ end_at view.seen k
  known-end node k kn = sym (end_at-front core.chain.history view.seen (party core view.author).seen k own.seen
      kn.within)

  pub known-seen : (node k : ℕ) → Knows core.terms view node k →
      end_at core.chain.history k ≤ (party core view.author).seen
  known-seen node k kn =
      let a = own.seen.count in let b = known-end node k kn in let c = end_at-within view.seen k in omega arith
