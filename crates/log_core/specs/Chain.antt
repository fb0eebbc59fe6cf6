-- The words of a log, and the chain that they hold.
use Rattle.std.specs.Prelude.{◌≡◌, ◌≢◌, ℕ, ◌+◌, ◌*◌, ◌<◌, ◌≤◌, ◌==◌, Bool, List, length, take, slice_index, slice_index_or, None}
use Rattle.std.specs.List.{count_by}
use Rattle.cubit_base.specs.History.{rows_after}
use Rattle.cubit_base.specs.declared.delta.Delta.{Delta}
use Rattle.cubit_base.specs.declared.entry.Entry.{Entry}
use Rattle.cubit_base.specs.EntryWords.{FitsWords, entry_words}
use Rattle.log_core.specs.Terms.{CoreTerms, first_node, node_count}

-- word 0 is the tail; a node has four payload words, and behind them its link
abbrev pub tail : List ℕ → ℕ
tail words = slice_index words 0

abbrev pub payload_place : ℕ → ℕ → ℕ
payload_place node word = 5 * node + word + 1

abbrev pub link_place : ℕ → ℕ
link_place node = 5 * node + 5

abbrev pub payload : List ℕ → ℕ → ℕ → ℕ
payload words node word = slice_index words (payload_place node word)

abbrev pub link : List ℕ → ℕ → ℕ
link words node = slice_index words (link_place node)

-- the payload of the node is that of the entry
pub record HasEntry (words : List ℕ) (node : ℕ) (entry : Entry) : Type 0 where
  pub fits : FitsWords entry
  pub payload : (w : ℕ) → w < 4 → payload words node w ≡ slice_index (entry_words entry) w

-- the nodes from the head on, in the order of their links; the deltas of those behind the head; and in which place the
-- tail stands
pub record Chain : Type 0 where
  pub nodes : List ℕ
  pub history : List Delta
  pub tail_place : ℕ

-- 0 past the last one, which is also the empty link
abbrev pub node_at : Chain → ℕ → ℕ
node_at chain place = slice_index chain.nodes place

-- the node stands in this place of the chain
pub record IsNodeAt (chain : Chain) (node place : ℕ) : Type 0 where
  pub within : place < length chain.nodes
  pub is : node_at chain place ≡ node

abbrev pub IsInChain : Chain → ℕ → Type 0
IsInChain chain node = (place : ℕ) × IsNodeAt chain node place

-- how many deltas a history has, and how many entries: each entry has one delta, and takes one node of the chain
abbrev pub delta_count : List Delta → ℕ
delta_count history = length history

abbrev pub entry_count : List Delta → ℕ
entry_count history = length history

-- the end of the node in this place: how many deltas the chain has up to it. Past the last node it stays
unfoldable pub end_at : List Delta → ℕ → ℕ
end_at history place = delta_count (take place history)

abbrev pub no_delta : Delta
no_delta = record { author = 0; row = 0; key = record { order = 0; line = 0 }; before = None; after = None }

-- the delta of the entry in this place, counted from 0
abbrev pub delta_at : List Delta → ℕ → Delta
delta_at history place = slice_index_or history place no_delta

abbrev pub is_by : ℕ → Delta → Bool
is_by author d = d.author == author

-- the entry in this place, counted from 0
abbrev pub entry_at : CoreTerms → List Delta → ℕ → Entry
entry_at terms history place = record {
  seq = end_at history (place + 1);
  rows = rows_after terms.base (take (place + 1) history);
  delta = delta_at history place;
}

-- the nodes are those that the links lead to from the head on, and all other links are empty
pub record IsLinked (terms : CoreTerms) (words : List ℕ) (chain : Chain) : Type 0 where
  pub count : length chain.nodes ≡ entry_count chain.history + 1
  pub head : node_at chain 0 ≡ 0
  pub next : (k : ℕ) → k < length chain.nodes → link words (node_at chain k) ≡ node_at chain (k + 1)
  pub apart : (j k : ℕ) → j < k → k < length chain.nodes → node_at chain j ≢ node_at chain k
  pub others : (n : ℕ) → n < node_count terms → (IsInChain chain n → ⊥) → link words n ≡ 0

-- the payloads are those of the history's entries, each in its author's next node
pub record IsFilled (terms : CoreTerms) (words : List ℕ) (chain : Chain) : Type 0 where
  pub head : (w : ℕ) → w < 4 → payload words 0 w ≡ 0
  pub entries : (k : ℕ) → k < entry_count chain.history →
      HasEntry words (node_at chain (k + 1)) (entry_at terms chain.history k)
  pub authors : (k : ℕ) → k < entry_count chain.history → (delta_at chain.history k).author < length terms.shares
  pub nodes : (k : ℕ) → k < entry_count chain.history → node_at chain (k + 1)
      ≡ first_node terms (delta_at chain.history k).author
      + count_by (is_by (delta_at chain.history k).author) (take k chain.history)

-- the tail is the last node, or the one before it
pub record HasTail (words : List ℕ) (chain : Chain) : Type 0 where
  pub is : tail words ≡ node_at chain chain.tail_place
  pub within : chain.tail_place ≤ entry_count chain.history
  pub late : entry_count chain.history ≤ chain.tail_place + 1
