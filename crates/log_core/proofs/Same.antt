-- The words of a core decide its chain, and a step has one answer and one core after it.
use Rattle.std.proofs.Common.{◌≡◌, ℕ, zero, suc, ◌+◌, ◌<◌, ◌≤◌, List, length, inl, inr, sym, ap, ◌∙◌, subst, arith}
use mathlib.Core.Logic.{dite}
use native.Mathlib.Decide.{dec_lt}
use Rattle.std.proofs.lemmas.List.{ext_get_or}
use Rattle.cubit_base.specs.declared.entry.Entry.{Entry}
use Rattle.log_core.specs.declared.step.Step.{Step}
use Rattle.log_core.specs.declared.step.Step.TheVariants.{Store, LoadTail, LoadLink, LoadPayload, SwapLink, SwapTail, Note, Join}
use Rattle.log_core.specs.declared.step.Seen.{Seen}
use Rattle.log_core.specs.Terms.{CoreTerms}
use Rattle.log_core.specs.Chain.{Chain, tail, link, node_at, no_delta, HasEntry, IsNodeAt, IsLinked, IsFilled, entry_at}
use Rattle.log_core.specs.Core.{CoreValue, IsSound}
use Rattle.log_core.specs.Steps.{sees_next, reaches_next, linked, tail_moved, Gives, TakesStep}
use Rattle.log_core.proofs.Entries.{TellsEntry, four-words}
use Rattle.log_core.proofs.Nodes.{node-positive, last-link, one-place}

same-entry : TellsEntry → (ws : List ℕ) (n : ℕ) (a b : Entry) → HasEntry ws n a → HasEntry ws n b → a ≡ b
same-entry tells ws n a b ha hb =
    tells a b ha.fits hb.fits (sym (four-words ws n a ha) ∙ four-words ws n b hb)

module _ (t : CoreTerms) (ws : List ℕ) where
  same-node : (a b : Chain) → IsLinked t ws a → IsLinked t ws b → (k : ℕ) → k < length a.nodes →
      k < length b.nodes → node_at a k ≡ node_at b k
  same-node a b la lb zero lt lt' = la.head ∙ sym lb.head
  same-node a b la lb (suc k) lt lt' =
      let up : suc k ≡ k + 1 = omega arith in
      ap (node_at a) up ∙ sym (la.next k (omega arith))
      ∙ ap (link ws) (same-node a b la lb k (omega arith) (omega arith)) ∙ lb.next k (omega arith)
      ∙ sym (ap (node_at b) up)

  no-longer : (a b : Chain) → IsLinked t ws a → IsFilled t ws a → IsLinked t ws b → IsFilled t ws b →
      length a.nodes ≤ length b.nodes
  no-longer a b la fa lb fb = dite (dec_lt (length b.nodes) (length a.nodes))
      (λ lt.
      let k : ℕ = length b.history in let count = lb.count in
      let end : node_at a (k + 1) ≡ 0 =
      sym (la.next k (omega arith)) ∙ ap (link ws) (same-node a b la lb k (omega arith) (omega arith))
      ∙ last-link t ws b lb fb in
      let some = node-positive t ws a la fa (k + 1) (omega arith) (omega arith) in
      absurd (omega arith))
      (λ ge. omega arith)

  module _ (tells : TellsEntry) (a b : Chain) (la : IsLinked t ws a) (fa : IsFilled t ws a) (lb : IsLinked t ws b)
      (fb : IsFilled t ws b) where
    same-length : length a.nodes ≡ length b.nodes
    same-length = let x = no-longer a b la fa lb fb in let y = no-longer b a lb fb la fa in omega arith

    pub same-nodes : a.nodes ≡ b.nodes
    same-nodes =
        ext_get_or 0 a.nodes b.nodes same-length (λ k lt. same-node a b la lb k lt (omega (arith, same-length)))

    pub same-history : a.history ≡ b.history
    same-history =
        let ca = la.count in let cb = lb.count in
        let long : length a.history ≡ length b.history = omega (arith, same-length) in
        ext_get_or no_delta a.history b.history long
        (λ k lt.
        let node = same-node a b la lb (k + 1) (omega arith) (omega arith) in
        let there = subst (λ n. HasEntry ws n (entry_at t a.history k)) node (fa.entries k lt) in
        ap (λ (e : Entry). e.delta)
        (same-entry tells ws (node_at b (k + 1)) (entry_at t a.history k) (entry_at t b.history k) there
        (fb.entries k (omega arith))))

pub same-chain : TellsEntry → (a b : CoreValue) → IsSound a → IsSound b → a.terms ≡ b.terms → a.words ≡ b.words →
    a.chain ≡ b.chain
same-chain tells a b sa sb terms words =
    let la = subst (λ t. IsLinked t b.words a.chain) terms
    (subst (λ ws. IsLinked a.terms ws a.chain) words sa.linked) in
    let fa = subst (λ t. IsFilled t b.words a.chain) terms
    (subst (λ ws. IsFilled a.terms ws a.chain) words sa.filled) in
    let nodes = same-nodes b.terms b.words tells a.chain b.chain la fa sb.linked sb.filled in
    let history = same-history b.terms b.words tells a.chain b.chain la fa sb.linked sb.filled in
    let ca = la.count in let cb = sb.linked.count in
    let ta = sa.tail.within in let tb = sb.tail.within in
    let long : length a.chain.nodes ≡ length b.chain.nodes = ap (λ (x : List ℕ). length x) nodes in
    let place = one-place b.terms b.words b.chain sb.linked sb.filled (tail b.words) a.chain.tail_place
    b.chain.tail_place
    (record {
      within = omega arith;
      is = sym (ap (λ (x : List ℕ). node_at (record b.chain { nodes = x }) a.chain.tail_place) nodes)
          ∙ sym sa.tail.is ∙ ap (λ (ws : List ℕ). tail ws) words;
    })
    (record { within = omega arith; is = sym sb.tail.is }) in
    λ i. record { nodes = nodes i; history = history i; tail_place = place i }

module _ (tells : TellsEntry) (c : CoreValue) (s : IsSound c) (p : ℕ) where
  place-same : (n j k : ℕ) → IsNodeAt c.chain n j → IsNodeAt c.chain n k → j ≡ k
  place-same n j k x y = one-place c.terms c.words c.chain s.linked s.filled n j k x y

  pub gives-one : (step : Step) (a b : Seen) (y z : CoreValue) → Gives c p step a y → Gives c p step b z →
      (a ≡ b) × (y ≡ z)
  gives-one (Store node word value) a b y z g h = (g.2 ∙ sym h.2, g.3 ∙ sym h.3)
  gives-one LoadTail a b y z g h = (g.0 ∙ sym h.0, g.1 ∙ sym h.1)
  gives-one (LoadLink node) a b y z g h =
      (g.2 ∙ sym h.2, g.3 ∙ ap (sees_next c p) (place-same node g.0 h.0 g.1.at h.1.at) ∙ sym h.3)
  gives-one (LoadPayload node word) a b y z g h = (g.3 ∙ sym h.3, g.4 ∙ sym h.4)
  gives-one (SwapLink node to) a b y z (j, e, m, x, f, inl u) (k, e', m', x', f', inl v) =
      let place = place-same node j k m.read.at m'.read.at in
      let entry = same-entry tells c.words to e e' x x' in
      (u.1 ∙ sym v.1, u.2 ∙ (λ i. linked c p node to (place i) (entry i).delta) ∙ sym v.2)
  gives-one (SwapLink node to) a b y z (j, e, m, x, f, inl u) (k, e', m', x', f', inr v) = absurd (v.0 u.0)
  gives-one (SwapLink node to) a b y z (j, e, m, x, f, inr u) (k, e', m', x', f', inl v) = absurd (u.0 v.0)
  gives-one (SwapLink node to) a b y z (j, e, m, x, f, inr u) (k, e', m', x', f', inr v) =
      let place = place-same node j k m.read.at m'.read.at in
      (u.1 ∙ sym v.1, u.2 ∙ ap (sees_next c p) place ∙ sym v.2)
  gives-one (SwapTail from to) a b y z (j, m, inl u) (k, m', inl v) =
      let place = place-same from j k m.at m'.at in
      (u.1 ∙ sym v.1, u.2 ∙ ap (tail_moved c p to) place ∙ sym v.2)
  gives-one (SwapTail from to) a b y z (j, m, inl u) (k, m', inr v) = absurd (v.0 u.0)
  gives-one (SwapTail from to) a b y z (j, m, inr u) (k, m', inl v) = absurd (u.0 v.0)
  gives-one (SwapTail from to) a b y z (j, m, inr u) (k, m', inr v) =
      let place = place-same from j k m.at m'.at in
      (u.1 ∙ sym v.1, u.2 ∙ ap (reaches_next c p) place ∙ sym v.2)
  gives-one Note a b y z g h = (g.0 ∙ sym h.0, g.1 ∙ sym h.1)
  gives-one (Join note) a b y z g h = (g.1 ∙ sym h.1, g.2 ∙ sym h.2)

pub takes-one : TellsEntry → (core : CoreValue) (p : ℕ) (step : Step) (a b : Seen) (y z : CoreValue) → IsSound core →
    TakesStep core p step a y → TakesStep core p step b z → (a ≡ b) × (y ≡ z)
takes-one tells core p step a b y z s g h = gives-one tells core s p step a b y z g.gives h.gives
