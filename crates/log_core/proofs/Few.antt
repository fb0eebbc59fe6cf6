-- A chain has no more nodes than there are.
use Rattle.std.proofs.Common.{◌≡◌, ℕ, ◌+◌, ◌<◌, ◌≤◌, List, length, get_or, eqb, ne_eqb, true, false, sym, ◌∙◌, arith}
use Rattle.std.specs.List.{sum, list_any}
use Rattle.std.proofs.lemmas.List.Elements.{All-from_get_or}
use Rattle.std.proofs.lemmas.List.Folds.{list_any_none}
use Rattle.std.proofs.lemmas.Grind.{get_or_default_zero}
use Rattle.std.proofs.lemmas.Map.Keys.{IsDistinct-from_apart}
use Rattle.std.proofs.lemmas.Map.Steps.{length-le_from_distinct_below}
use mathlib.Core.Logic.{dite}
use native.Mathlib.Decide.{dec_lt}
use Rattle.log_core.specs.Terms.{node_count}
use Rattle.log_core.specs.Chain.{entry_count}
use Rattle.log_core.specs.Core.{CoreValue, IsSound}
use Rattle.log_core.proofs.Bounds.{place-small}

-- what is found in a list of small numbers is small
found-small : (xs : List ℕ) (n q : ℕ) → ((i : ℕ) → i < length xs → get_or xs i 0 < n) → list_any (eqb q) xs ≡ true →
    q < n
found-small xs n q small found = dite (dec_lt q n) (λ lt. lt)
    (λ ge.
    let none = list_any_none (eqb q) xs (All-from_get_or (λ x. eqb q x ≡ false) xs 0
    (λ i lt. ne_eqb q (get_or xs i 0) (λ e. let a = small i lt in absurd (omega arith)))) in
    absurd (cc))

nodes-few : (c : CoreValue) → IsSound c → length c.chain.nodes ≤ node_count c.terms
nodes-few c s = length-le_from_distinct_below c.chain.nodes (node_count c.terms)
    (IsDistinct-from_apart eqb c.chain.nodes
    (λ i j d lt within. ne_eqb (get_or c.chain.nodes i d) (get_or c.chain.nodes j d)
    (λ e. s.linked.apart i j lt within
    (sym (get_or_default_zero c.chain.nodes i d (omega arith)) ∙ e ∙ get_or_default_zero c.chain.nodes j d within))))
    (λ q found. found-small c.chain.nodes (node_count c.terms) q (λ i lt. place-small c s i lt) found)

pub entries-few : (c : CoreValue) → IsSound c → entry_count c.chain.history ≤ sum c.terms.shares
entries-few c s = let few = nodes-few c s in let count = s.linked.count in omega arith
