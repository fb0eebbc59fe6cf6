-- What the log's core tells of its steps and its nodes, as one statement.
use Rattle.std.specs.Prelude.{◌≡◌, ℕ, ◌+◌, ◌<◌, length}
use Rattle.log_core.specs.declared.step.Step.{Step}
use Rattle.log_core.specs.declared.step.Seen.{Seen}
use Rattle.log_core.specs.Terms.{CoreTerms, share, first_node, node_count}
use Rattle.log_core.specs.Chain.{link, IsNodeAt, entry_count}
use Rattle.log_core.specs.Core.{CoreValue, IsSound}
use Rattle.log_core.specs.Growing.{HasGrown}
use Rattle.log_core.specs.Steps.{TakesStep}

pub record CoreLaws : Type 0 where
  pub sound : (core next : CoreValue) (p : ℕ) (step : Step) (gave : Seen) → IsSound core →
      TakesStep core p step gave next → IsSound next
  pub grows : (core next : CoreValue) (p : ℕ) (step : Step) (gave : Seen) → IsSound core →
      TakesStep core p step gave next → HasGrown core next
  pub place : (core : CoreValue) (node j k : ℕ) → IsSound core → IsNodeAt core.chain node j →
      IsNodeAt core.chain node k → j ≡ k
  pub inside : (core : CoreValue) (node k : ℕ) → IsSound core → IsNodeAt core.chain node k →
      node < node_count core.terms
  pub head : (core : CoreValue) (k : ℕ) → IsSound core → IsNodeAt core.chain 0 k → k ≡ 0
  pub last : (core : CoreValue) (node k : ℕ) → IsSound core → IsNodeAt core.chain node k →
      link core.words node ≡ 0 → k ≡ entry_count core.chain.history
  pub own : (terms : CoreTerms) (p i : ℕ) → p < length terms.shares → i < share terms p →
      first_node terms p + i < node_count terms
  pub apart : (terms : CoreTerms) (p q i j : ℕ) → p < length terms.shares → q < length terms.shares →
      i < share terms p → j < share terms q → first_node terms p + i ≡ first_node terms q + j → p ≡ q
