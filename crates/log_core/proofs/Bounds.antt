-- Which numbers of a sound core are small, and which of its words are there.
use Rattle.std.proofs.Common.{◌≡◌, ℕ, ◌+◌, ◌*◌, ◌<◌, ◌≤◌, length, sym, ap, ◌∙◌, arith}
use mathlib.Core.Logic.{dite}
use native.Mathlib.Decide.{dec_lt}
use Rattle.std.proofs.lemmas.List.{get_or_past}
use Rattle.log_core.specs.Terms.{share, first_node, node_count, AreTerms}
use Rattle.log_core.specs.Chain.{tail, link, node_at, IsNodeAt}
use Rattle.log_core.specs.Core.{CoreValue, party, IsSound}
use Rattle.log_core.specs.Steps.{IsNextNode}
use Rattle.log_core.proofs.Nodes.{node-small, node-inside}
use Rattle.log_core.proofs.Looks.{keeps-shares}

pub place-small : (c : CoreValue) → IsSound c → (k : ℕ) → k < length c.chain.nodes
    → node_at c.chain k < node_count c.terms
place-small c s k lt = node-small c.terms c.words c.chain s.linked s.filled (keeps-shares c s) k lt

pub tail-small : (c : CoreValue) → IsSound c → tail c.words < node_count c.terms
tail-small c s =
    let count = s.linked.count in let within = s.tail.within in let is = s.tail.is in
    let small = place-small c s c.chain.tail_place (omega arith) in
    omega arith

-- the words of a chain node, and those of a party's next one
pub node-words : (c : CoreValue) (n k : ℕ) → IsSound c → IsNodeAt c.chain n k → 5 * n + 5 < length c.words
node-words c n k s at =
    let count = s.word_count in let is = at.is in
    let small = place-small c s k at.within in
    omega arith

pub next-words : (c : CoreValue) (p n : ℕ) → IsSound c → p < length c.parties → IsNextNode c p n →
    5 * n + 5 < length c.words
next-words c p n s inp next =
    let count = s.word_count in let parties = s.party_count in let is = next.is in
    let small = node-inside c.terms p (party c p).used (omega arith) next.share in
    omega arith

pub next-small : (c : CoreValue) (p : ℕ) → IsSound c → AreTerms c.terms → p < length c.parties →
    (party c p).used < share c.terms p → first_node c.terms p + (party c p).used ≤ 4_194_305
next-small c p s a inp spare =
    let parties = s.party_count in let nodes = a.nodes in
    let small = node-inside c.terms p (party c p).used (omega arith) spare in
    omega arith

-- the tail's place, and its link
pub tail-at : (c : CoreValue) → IsSound c → IsNodeAt c.chain (tail c.words) c.chain.tail_place
tail-at c s = let count = s.linked.count in let within = s.tail.within in record {
  within = omega arith;
  is = sym s.tail.is;
}

pub tail_link-small : (c : CoreValue) → IsSound c → link c.words (tail c.words) < node_count c.terms
tail_link-small c s =
    let count = s.linked.count in let within = s.tail.within in
    let next : ℕ = c.chain.tail_place + 1 in
    let is : link c.words (tail c.words) ≡ node_at c.chain next =
    ap (link c.words) s.tail.is ∙ s.linked.next c.chain.tail_place (omega arith) in
    dite (dec_lt next (length c.chain.nodes))
    (λ lt. let small = place-small c s next lt in omega arith)
    (λ ge. let none = get_or_past c.chain.nodes next 0 (omega arith) in omega arith)
