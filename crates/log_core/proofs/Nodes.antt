-- Where the nodes of a party lie, and which nodes stand in a chain.
use Rattle.std.proofs.Common.{◌≡◌, ◌≢◌, ℕ, ◌+◌, ◌-◌, ◌<◌, ◌≤◌, zero, suc, List, length, take, sym, refl, ap, ◌∙◌, subst, arith, eq-eqb}
use mathlib.Core.Logic.{dite}
use native.Mathlib.Decide.{dec_lt}
use Rattle.std.specs.List.{count_by}
use Rattle.std.proofs.lemmas.List.{get_or_past}
use Rattle.std.proofs.lemmas.List.Sums.{sum_by_more, sum_by-take-le}
use Rattle.cubit_base.specs.declared.delta.Delta.{Delta}
use Rattle.log_core.specs.Terms.{CoreTerms, share, first_node, node_count}
use Rattle.log_core.specs.Chain.{Chain, link, node_at, IsNodeAt, IsInChain, delta_at, end_at, is_by, IsLinked, IsFilled}
use Rattle.log_core.proofs.Ends.{end_at-greater, count-before}

pub first_node-next : (t : CoreTerms) (p : ℕ) → p < length t.shares → first_node t (p + 1) ≡ first_node t p + share t p
first_node-next t p lt = omega (arith, sum_by_more (λ (x : ℕ). x) t.shares p 0 lt)

-- all nodes of a party lie before those of a later one
first_node-later : (t : CoreTerms) (p d : ℕ) → p + suc d ≤ length t.shares →
    first_node t p + share t p ≤ first_node t (p + suc d)
first_node-later t p zero le =
    let e : p + suc zero ≡ p + 1 = omega arith in
    omega (arith, first_node-next t p (omega arith), ap (first_node t) e)
first_node-later t p (suc d) le =
    let before = first_node-later t p d (omega arith) in
    let e : p + suc (suc d) ≡ (p + suc d) + 1 = omega arith in
    omega (arith, before, first_node-next t (p + suc d) (omega arith), ap (first_node t) e)

lower-apart : (t : CoreTerms) (p q i j : ℕ) → p < q → q < length t.shares → i < share t p →
    first_node t p + i ≡ first_node t q + j → ⊥
lower-apart t p q i j lt inside small e =
    let d : ℕ = q - suc p in let is : p + suc d ≡ q = omega arith in
    let later = subst (λ z. first_node t p + share t p ≤ first_node t z) is (first_node-later t p d (omega arith)) in
    omega arith

-- no node has two owners
pub one-owner : (t : CoreTerms) (p q i j : ℕ) → p < length t.shares → q < length t.shares → i < share t p →
    j < share t q → first_node t p + i ≡ first_node t q + j → p ≡ q
one-owner t p q i j inp inq small small' e = dite (dec_lt p q)
    (λ lt. absurd (lower-apart t p q i j lt inq small e))
    (λ ge. dite (dec_lt q p) (λ lt. absurd (lower-apart t q p j i lt inp small' (sym e))) (λ ge'. omega arith))

pub node-inside : (t : CoreTerms) (p i : ℕ) → p < length t.shares → i < share t p → first_node t p + i < node_count t
node-inside t p i inp small =
    omega (arith, first_node-next t p inp, sum_by-take-le (λ (x : ℕ). x) t.shares (p + 1))

-- no party has more entries than nodes
abbrev pub KeepsShares : CoreTerms → List Delta → Type 0
KeepsShares t h = (q : ℕ) → q < length t.shares → count_by (is_by q) h ≤ share t q

module _ (t : CoreTerms) (ws : List ℕ) (ch : Chain) (l : IsLinked t ws ch) (f : IsFilled t ws ch) where
  -- only the head is node 0
  pub node-positive : (k : ℕ) → 0 < k → k < length ch.nodes → 0 < node_at ch k
  node-positive zero some lt = absurd (omega arith)
  node-positive (suc k) some lt =
      let count = l.count in
      let up : k + 1 ≡ suc k = omega arith in
      omega (arith, f.nodes k (omega arith), ap (node_at ch) up)

  pub only-head : (k : ℕ) → IsNodeAt ch 0 k → k ≡ 0
  only-head k at = dite (dec_lt 0 k)
      (λ lt. let some = node-positive k lt at.within in let is = at.is in absurd (omega arith))
      (λ ge. omega arith)

  pub last-link : link ws (node_at ch (length ch.history)) ≡ 0
  last-link =
      let count = l.count in
      l.next (length ch.history) (omega arith) ∙ get_or_past ch.nodes (length ch.history + 1) 0 (omega arith)

  -- only the last node's link is empty
  pub empty-last : (n k : ℕ) → IsNodeAt ch n k → link ws n ≡ 0 → k ≡ length ch.history
  empty-last n k at empty =
      let count = l.count in let within = at.within in
      dite (dec_lt k (length ch.history))
      (λ lt.
      let next = subst (λ z. link ws z ≡ node_at ch (k + 1)) at.is (l.next k within) in
      let some = node-positive (k + 1) (omega arith) (omega arith) in
      absurd (omega arith))
      (λ ge. omega arith)

  pub full-inner : (n k : ℕ) → IsNodeAt ch n k → link ws n ≢ 0 → k < length ch.history
  full-inner n k at full =
      let count = l.count in let within = at.within in
      dite (dec_lt k (length ch.history)) (λ lt. lt)
      (λ ge.
      let is : k ≡ length ch.history = omega arith in
      absurd (full (subst (λ z. link ws z ≡ 0) (ap (node_at ch) (sym is) ∙ at.is) last-link)))

  -- the place of a node is its only one
  pub one-place : (n j k : ℕ) → IsNodeAt ch n j → IsNodeAt ch n k → j ≡ k
  one-place n j k a b = dite (dec_lt j k)
      (λ lt. absurd (l.apart j k lt b.within (a.is ∙ sym b.is)))
      (λ ge. dite (dec_lt k j) (λ lt. absurd (l.apart k j lt a.within (b.is ∙ sym a.is))) (λ ge'. omega arith))

  own-entry : (k : ℕ) → k < length ch.history → KeepsShares t ch.history →
      count_by (is_by (delta_at ch.history k).author) (take k ch.history) < share t (delta_at ch.history k).author
  own-entry k lt keeps =
      let a : ℕ = (delta_at ch.history k).author in
      let before = count-before ch.history a k lt (eq-eqb a a refl) in
      let most = keeps a (f.authors k lt) in
      omega arith

  -- a node that its party has not used is not in the chain
  pub unused-outside : (p i : ℕ) → p < length t.shares → count_by (is_by p) ch.history ≤ i → i < share t p →
      KeepsShares t ch.history → IsInChain ch (first_node t p + i) → ⊥
  unused-outside p i inp unused small keeps (zero, at) = let head = l.head in let is = at.is in omega arith
  unused-outside p i inp unused small keeps (suc k, at) =
      let count = l.count in let within = at.within in let lt : k < length ch.history = omega arith in
      let up : k + 1 ≡ suc k = omega arith in
      let a : ℕ = (delta_at ch.history k).author in
      let same = sym (f.nodes k lt) ∙ ap (node_at ch) up ∙ at.is in
      let owner : a ≡ p = one-owner t a p (count_by (is_by a) (take k ch.history)) i (f.authors k lt) inp
      (own-entry k lt keeps) small same in
      let here = subst (λ q. first_node t q + count_by (is_by q) (take k ch.history) ≡ first_node t p + i) owner same in
      let before = subst (λ q. count_by (is_by q) (take k ch.history) < count_by (is_by q) ch.history) owner
      (count-before ch.history a k lt (eq-eqb a a refl)) in
      omega arith

  pub node-small : KeepsShares t ch.history → (k : ℕ) → k < length ch.nodes → node_at ch k < node_count t
  node-small keeps zero lt = let head = l.head in omega arith
  node-small keeps (suc k) lt' =
      let count = l.count in let lt : k < length ch.history = omega arith in
      let up : k + 1 ≡ suc k = omega arith in
      let a : ℕ = (delta_at ch.history k).author in
      omega (
        arith,
        f.nodes k lt,
        ap (node_at ch) up,
        node-inside t a (count_by (is_by a) (take k ch.history)) (f.authors k lt) (own-entry k lt keeps),
      )

-- ends tell which place comes first
pub place-before : (h : List Delta) (j k : ℕ) → j ≤ length h → end_at h j ≤ end_at h k → j ≤ k
place-before h j k within le = dite (dec_lt k j)
    (λ lt. let more = end_at-greater h k j lt (omega arith) in absurd (omega arith))
    (λ ge. omega arith)
