-- A lawful step lets a core grow, and what its tail tells.
use Rattle.std.proofs.Common.{◌≡◌, ℕ, ◌+◌, ◌<◌, ◌≤◌, Bool, cond, eq-eqb, ne_eqb, [], ◌∷◌, length, sym, refl, ap, ◌∙◌, subst, ⊎_elim, arith}
use mathlib.Core.Logic.{dite}
use native.Mathlib.Decide.{ℕ_discrete}
use Rattle.std.proofs.lemmas.List.{append-nil}
use Rattle.cubit_base.specs.declared.delta.Delta.{Delta}
use Rattle.log_core.specs.declared.step.Step.{Step}
use Rattle.log_core.specs.declared.step.Step.TheVariants.{Store, LoadTail, LoadLink, LoadPayload, SwapLink, SwapTail, Note, Join}
use Rattle.log_core.specs.declared.step.Seen.{Seen}
use Rattle.log_core.specs.Chain.{Chain, tail, link, node_at, IsNodeAt, end_at}
use Rattle.log_core.specs.Core.{CoreValue, party, IsSound}
use Rattle.log_core.specs.Steps.{Gives, TakesStep, linked, tail_moved, MayMoveTail}
use Rattle.log_core.specs.Growing.{HasGrown, behind}
use Rattle.log_core.proofs.Ends.{end_at-grows, end_at-rising, end_at-last, end_at-place}
use Rattle.log_core.proofs.Nodes.{empty-last, full-inner, one-place}

grows-same : (c z : CoreValue) → z.terms ≡ c.terms → z.chain ≡ c.chain → HasGrown c z
grows-same c z terms chain = record {
  terms = terms;
  history = ([], ap (λ (x : Chain). x.history) chain ∙ sym (append-nil c.chain.history));
  nodes = ([], ap (λ (x : Chain). x.nodes) chain ∙ sym (append-nil c.chain.nodes));
  tail = let e = ap (λ (x : Chain). end_at x.history x.tail_place) chain in omega arith;
}

grows-linked : (c : CoreValue) (p n to k : ℕ) (d : Delta) → HasGrown c (linked c p n to k d)
grows-linked c p n to k d = record {
  terms = refl;
  history = (d ∷ [], refl);
  nodes = (to ∷ [], refl);
  tail = end_at-grows c.chain.history d c.chain.tail_place;
}

grows-moved : (c : CoreValue) → IsSound c → (p from to k : ℕ) → MayMoveTail c p from to k → tail c.words ≡ from →
    HasGrown c (tail_moved c p to k)
grows-moved c s p from to k may hit = record {
  terms = refl;
  history = ([], sym (append-nil c.chain.history));
  nodes = ([], sym (append-nil c.chain.nodes));
  tail =
      let count = s.linked.count in let within = s.tail.within in
      let here : c.chain.tail_place ≡ k = one-place c.terms c.words c.chain s.linked s.filled from c.chain.tail_place k
      (record { within = omega arith; is = sym s.tail.is ∙ hit }) may.at in
      end_at-rising c.chain.history c.chain.tail_place (k + 1) (omega arith);
}

grows-gives : (c z : CoreValue) (p : ℕ) (step : Step) (seen : Seen) → IsSound c → Gives c p step seen z → HasGrown c z
grows-gives c z p (Store node word value) seen s g = subst (HasGrown c) (sym g.3) (grows-same c _ refl refl)
grows-gives c z p LoadTail seen s g = subst (HasGrown c) (sym g.1) (grows-same c _ refl refl)
grows-gives c z p (LoadLink node) seen s g = subst (HasGrown c) (sym g.3) (grows-same c _ refl refl)
grows-gives c z p (LoadPayload node word) seen s g = subst (HasGrown c) (sym g.4) (grows-same c c refl refl)
grows-gives c z p (SwapLink node to) seen s g = ⊎_elim
    (λ u. subst (HasGrown c) (sym u.2) (grows-linked c p node to g.0 g.1.delta))
    (λ u. subst (HasGrown c) (sym u.2) (grows-same c _ refl refl))
    g.5
grows-gives c z p (SwapTail from to) seen s g = ⊎_elim
    (λ u. subst (HasGrown c) (sym u.2) (grows-moved c s p from to g.0 g.1 u.0))
    (λ u. subst (HasGrown c) (sym u.2) (grows-same c _ refl refl))
    g.2
grows-gives c z p Note seen s g = subst (HasGrown c) (sym g.1) (grows-same c _ refl refl)
grows-gives c z p (Join note) seen s g = subst (HasGrown c) (sym g.2) (grows-same c _ refl refl)

pub takes-grows : (core next : CoreValue) (p : ℕ) (step : Step) (seen : Seen) → IsSound core →
    TakesStep core p step seen next → HasGrown core next
takes-grows core next p step seen s takes = grows-gives core next p step seen s takes.gives

-- the node behind one of the chain, by its link
behind-at : (c : CoreValue) → IsSound c → (n k : ℕ) → IsNodeAt c.chain n k →
    (j : ℕ) × IsNodeAt c.chain (behind n (link c.words n)) j
    × (end_at c.chain.history j ≡ end_at c.chain.history (k + 1))
behind-at c s n k at = dite (ℕ_discrete (link c.words n) 0)
    (λ e.
    let last = empty-last c.terms c.words c.chain s.linked s.filled n k at e in (
      k,
      subst (λ x. IsNodeAt c.chain x k)
          (sym (ap (λ (b : Bool). let r : ℕ = cond b n (link c.words n) in r) (eq-eqb (link c.words n) 0 e))) at,
      end_at-last c.chain.history k (omega arith) ∙ sym (end_at-last c.chain.history (k + 1) (omega arith)),
    ))
    (λ ne.
    let count = s.linked.count in
    let inner = full-inner c.terms c.words c.chain s.linked s.filled n k at ne in (
      k + 1,
      subst (λ x. IsNodeAt c.chain x (k + 1))
          (sym (ap (λ (b : Bool). let r : ℕ = cond b n (link c.words n) in r) (ne_eqb (link c.words n) 0 ne)))
          (record {
            within = omega arith;
            is = sym (subst (λ x. link c.words x ≡ node_at c.chain (k + 1)) at.is (s.linked.next k at.within));
          }),
      refl,
    ))

-- the last node is the tail, or the one that the tail links to
pub last-by-tail : (c : CoreValue) → IsSound c →
    behind (tail c.words) (link c.words (tail c.words)) ≡ node_at c.chain (length c.chain.history)
last-by-tail c s =
    let count = s.linked.count in let within = s.tail.within in let late = s.tail.late in
    let at : IsNodeAt c.chain (tail c.words) c.chain.tail_place = record { within = omega arith; is = sym s.tail.is } in
    let b = behind-at c s (tail c.words) c.chain.tail_place at in
    let end = end_at-last c.chain.history (c.chain.tail_place + 1) (omega arith) in
    let there = end_at-place c.chain.history b.0 (let w = b.1.within in omega arith) in
    let e = b.2 in
    sym b.1.is ∙ ap (node_at c.chain) (let x : b.0 ≡ length c.chain.history = omega arith in x)

-- behind the tail that a party loaded last stands all that there was then
pub last-tail-ends : (c : CoreValue) (p : ℕ) → IsSound c → p < length c.parties →
    (k : ℕ) × IsNodeAt c.chain (behind (party c p).last (link c.words (party c p).last)) k
    × ((party c p).low ≤ end_at c.chain.history k)
last-tail-ends c p s inp =
    let l = (s.parties p inp).last in
    let b = behind-at c s (party c p).last l.0 l.1 in
    let e = b.2 in let low = l.2 in
    (b.0, b.1, omega arith)
