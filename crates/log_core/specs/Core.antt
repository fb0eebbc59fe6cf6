-- The log's core, and when it is sound.
use Rattle.std.specs.Prelude.{◌≡◌, ℕ, ◌+◌, ◌*◌, ◌<◌, ◌≤◌, List, [], ◌∷◌, length, replicate, slice_index_or, slice_set}
use Rattle.std.specs.List.{count_by}
use Rattle.cubit_base.specs.History.{IsHistory}
use Rattle.log_core.specs.declared.party.Party.{Party}
use Rattle.log_core.specs.Terms.{CoreTerms, share, node_count}
use Rattle.log_core.specs.Chain.{Chain, IsNodeAt, delta_count, entry_count, end_at, delta_at, is_by, IsLinked, IsFilled, HasTail}

-- what it was told once; the words of the log, and their chain; what each party has seen and made; and how many deltas
-- were noted for others
pub record CoreValue : Type 0 where
  pub terms : CoreTerms
  pub words : List ℕ
  pub chain : Chain
  pub parties : List Party
  pub noted : ℕ

-- a party that has made no step
abbrev pub newcomer : Party
newcomer = record { seen = 0; reached = 0; low = 0; last = 0; used = 0 }

abbrev pub party : CoreValue → ℕ → Party
party core p = slice_index_or core.parties p newcomer

abbrev pub with_party : CoreValue → ℕ → Party → CoreValue
with_party core p x = record core { parties = slice_set core.parties p x }

-- before any step
abbrev pub made_core : CoreTerms → CoreValue
made_core terms = record {
  terms = terms;
  words = replicate (5 * node_count terms + 1) 0;
  chain = record { nodes = 0 ∷ []; history = []; tail_place = 0 };
  parties = replicate (length terms.shares) newcomer;
  noted = 0;
}

-- a party has seen no more than there is, and all of its own; it has used its first nodes; and the node behind the last
-- tail that it loaded, or else that tail, has an end of at least what there was then
pub record IsSoundParty (terms : CoreTerms) (chain : Chain) (p : ℕ) (x : Party) : Type 0 where
  pub seen : x.seen ≤ delta_count chain.history
  pub reached : x.reached ≤ end_at chain.history chain.tail_place
  pub used : x.used ≡ count_by (is_by p) chain.history
  pub share : x.used ≤ share terms p
  pub own : (k : ℕ) → k < entry_count chain.history → (delta_at chain.history k).author ≡ p →
      end_at chain.history (k + 1) ≤ x.seen
  pub low : x.low ≤ delta_count chain.history
  pub last : (k : ℕ) × IsNodeAt chain x.last k × (x.low ≤ end_at chain.history (k + 1))

pub record IsSound (core : CoreValue) : Type 0 where
  pub word_count : length core.words ≡ 5 * node_count core.terms + 1
  pub linked : IsLinked core.terms core.words core.chain
  pub filled : IsFilled core.terms core.words core.chain
  pub tail : HasTail core.words core.chain
  pub lawful : IsHistory core.terms.limits.row_limit core.terms.base core.chain.history
  pub within : delta_count core.chain.history ≤ core.terms.limits.log_limit
  pub party_count : length core.parties ≡ length core.terms.shares
  pub parties : (p : ℕ) → p < length core.parties → IsSoundParty core.terms core.chain p (party core p)
  pub noted : core.noted ≤ delta_count core.chain.history
