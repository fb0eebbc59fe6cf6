-- Prefixes of a shared log, and the node of each of its places.
use Rattle.std.specs.Prelude.{◌≡◌, ℕ, zero, suc, ◌+◌, nat_lt, List, take, if◌then◌else◌}
use Rattle.std.specs.List.{count_by}
use Rattle.cubit_base.specs.declared.delta.Delta.{Delta}
use Rattle.log_core.specs.Terms.{CoreTerms, first_node}
use Rattle.log_core.specs.Chain.{delta_count, delta_at, is_by}
use Rattle.commit_log.specs.Handle.{Begins}

-- the front is the prefix of the log with so many deltas
pub record IsFront (log front : List Delta) (n : ℕ) : Type 0 where
  pub begins : Begins front log
  pub count : delta_count front ≡ n

-- the longer of two prefixes of one log
abbrev pub longer : List Delta → List Delta → List Delta
longer a b = if nat_lt (delta_count a) (delta_count b) then b else a

-- the node in this place: the head, or the author's node behind those of its earlier entries
abbrev pub node_in : CoreTerms → List Delta → ℕ → ℕ
node_in terms log zero = 0
node_in terms log (suc place) =
    first_node terms (delta_at log place).author
    + count_by (is_by (delta_at log place).author) (take place log)
