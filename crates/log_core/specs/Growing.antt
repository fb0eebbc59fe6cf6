-- What a later core has of an earlier one.
use Rattle.std.specs.Prelude.{◌≡◌, ℕ, ◌==◌, ◌≤◌, List, ◌++◌, if◌then◌else◌}
use Rattle.cubit_base.specs.declared.delta.Delta.{Delta}
use Rattle.log_core.specs.Core.{CoreValue}
use Rattle.log_core.specs.Steps.{tail_end}

-- the history and the chain have grown at their ends alone, and the tail has not gone back
pub record HasGrown (core next : CoreValue) : Type 0 where
  pub terms : next.terms ≡ core.terms
  pub history : (rest : List Delta) × (next.chain.history ≡ core.chain.history ++ rest)
  pub nodes : (rest : List ℕ) × (next.chain.nodes ≡ core.chain.nodes ++ rest)
  pub tail : tail_end core ≤ tail_end next

-- the node that a link names, or else the node that has no link
abbrev pub behind : ℕ → ℕ → ℕ
behind node link = if link == 0 then node else link
