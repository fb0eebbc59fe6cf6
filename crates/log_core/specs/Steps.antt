-- The steps of the log's core.
use Rattle.std.specs.Prelude.{◌≡◌, ◌≢◌, ◌⊎◌, ℕ, ◌+◌, ◌<◌, ◌≤◌, [], ◌∷◌, ◌++◌, length, take, max, slice_set, true, false, Result, Ok, Err}
use Rattle.cubit_base.specs.Delta.{IsLawful}
use Rattle.cubit_base.specs.History.{after, rows_after}
use Rattle.cubit_base.specs.declared.delta.Delta.{Delta}
use Rattle.cubit_base.specs.declared.entry.Entry.{Entry}
use Rattle.log_core.specs.declared.party.Party.{Party}
use Rattle.log_core.specs.declared.step.Step.{Step}
use Rattle.log_core.specs.declared.step.Step.TheVariants.{Store, LoadTail, LoadLink, LoadPayload, SwapLink, SwapTail, Note, Join}
use Rattle.log_core.specs.declared.step.Seen.{Seen}
use Rattle.log_core.specs.declared.step.Seen.TheVariants.{Value, Swapped, Done}
use Rattle.log_core.specs.declared.step.Unlawful.{Unlawful}
use Rattle.log_core.specs.Terms.{share, first_node}
use Rattle.log_core.specs.Chain.{tail, payload_place, link_place, payload, link, HasEntry, IsNodeAt, delta_count, end_at}
use Rattle.log_core.specs.Core.{CoreValue, party, with_party}

-- the party's next node, which it has not used yet
pub record IsNextNode (core : CoreValue) (p node : ℕ) : Type 0 where
  pub share : (party core p).used < share core.terms p
  pub is : node ≡ first_node core.terms p + (party core p).used

-- a node whose payload the party may store
abbrev pub MayStore : CoreValue → ℕ → ℕ → Type 0
MayStore core p node = IsNextNode core p node

-- the node stands in this place, and the party has seen so far
pub record MayRead (core : CoreValue) (p node place : ℕ) : Type 0 where
  pub at : IsNodeAt core.chain node place
  pub seen : end_at core.chain.history place ≤ (party core p).seen

-- the party may try to link its next node behind the node in this place: it has seen that one, and the tail there, and
-- the log is not full
pub record MayLink (core : CoreValue) (p node to place : ℕ) : Type 0 where
  pub read : MayRead core p node place
  pub reached : end_at core.chain.history place ≤ (party core p).reached
  pub room : end_at core.chain.history place < core.terms.limits.log_limit
  pub next : IsNextNode core p to

-- the entry may come next behind this place: its delta is the party's own and lawful there, and its numbers follow
pub record MayComeNext (core : CoreValue) (p place : ℕ) (e : Entry) : Type 0 where
  pub author : e.delta.author ≡ p
  pub seq : e.seq ≡ end_at core.chain.history place + 1
  pub rows : e.rows ≡ rows_after core.terms.base (take place core.chain.history ++ e.delta ∷ [])
  pub lawful : IsLawful core.terms.limits.row_limit (after core.terms.base (take place core.chain.history)) e.delta

-- the party may try to move the tail from the node in this place to the one that it links to: it has seen the tail at
-- the first, and has seen the second
pub record MayMoveTail (core : CoreValue) (p from to place : ℕ) : Type 0 where
  pub at : IsNodeAt core.chain from place
  pub reached : end_at core.chain.history place ≤ (party core p).reached
  pub link : link core.words from ≡ to
  pub set : to ≢ 0
  pub seen : end_at core.chain.history (place + 1) ≤ (party core p).seen

-- the party has seen so much at least, or the tail so far
abbrev pub sees : Party → ℕ → Party
sees x end = record x { seen = max x.seen end }

abbrev pub reaches : Party → ℕ → Party
reaches x end = record x { reached = max x.reached end }

-- the end of the tail's node
abbrev pub tail_end : CoreValue → ℕ
tail_end core = end_at core.chain.history core.chain.tail_place

-- the party after it loaded the tail, of which it keeps how many deltas there were
abbrev pub loads_tail : Party → ℕ → ℕ → ℕ → Party
loads_tail x end low last = record {
  seen = max x.seen end;
  reached = max x.reached end;
  low = low;
  last = last;
  used = x.used;
}

abbrev pub tail_loaded : CoreValue → Party → Party
tail_loaded core x = loads_tail x (tail_end core) (delta_count core.chain.history) (tail core.words)

-- the core after the party saw the node behind this place; at the last node there is none, and it sees no more
abbrev pub sees_next : CoreValue → ℕ → ℕ → CoreValue
sees_next core p place = with_party core p (sees (party core p) (end_at core.chain.history (place + 1)))

-- the core after the party saw the tail behind this place
abbrev pub reaches_next : CoreValue → ℕ → ℕ → CoreValue
reaches_next core p place = with_party core p (reaches (party core p) (end_at core.chain.history (place + 1)))

-- the party after it linked its next node behind one with this end
abbrev pub links : Party → ℕ → Party
links x end = record (sees x (end + 1)) { used = x.used + 1 }

-- the core with the party's next node linked behind the last one, in this place
abbrev pub linked : CoreValue → ℕ → ℕ → ℕ → ℕ → Delta → CoreValue
linked core p node to place d = record {
  terms = core.terms;
  words = slice_set core.words (link_place node) to;
  chain = record {
    nodes = core.chain.nodes ++ to ∷ [];
    history = core.chain.history ++ d ∷ [];
    tail_place = core.chain.tail_place;
  };
  parties = slice_set core.parties p (links (party core p) (end_at core.chain.history place));
  noted = core.noted;
}

-- the core with the tail moved on from this place
abbrev pub tail_moved : CoreValue → ℕ → ℕ → ℕ → CoreValue
tail_moved core p to place = record {
  terms = core.terms;
  words = slice_set core.words 0 to;
  chain = record { nodes = core.chain.nodes; history = core.chain.history; tail_place = place + 1 };
  parties = slice_set core.parties p (reaches (party core p) (end_at core.chain.history (place + 1)));
  noted = core.noted;
}

-- the step of a party is lawful, gives this answer, and leaves this core; which parties there are is said below
abbrev pub Gives : CoreValue → ℕ → Step → Seen → CoreValue → Type 0
Gives core p (Store node word value) seen next =
    MayStore core p node × (word < 4) × (seen ≡ Done)
    × (next ≡ record core { words = slice_set core.words (payload_place node word) value })
Gives core p LoadTail seen next =
    (seen ≡ Value (tail core.words)) × (next ≡ with_party core p (tail_loaded core (party core p)))
Gives core p (LoadLink node) seen next =
    (place : ℕ) × MayRead core p node place × (seen ≡ Value (link core.words node)) × (next ≡ sees_next core p place)
Gives core p (LoadPayload node word) seen next =
    (place : ℕ) × MayRead core p node place × (word < 4) × (seen ≡ Value (payload core.words node word))
    × (next ≡ core)
Gives core p (SwapLink node to) seen next =
    (place : ℕ) × (e : Entry) × MayLink core p node to place × HasEntry core.words to e × MayComeNext core p place e
    × ((link core.words node ≡ 0) × (seen ≡ Swapped true) × (next ≡ linked core p node to place e.delta)
    ⊎ (link core.words node ≢ 0) × (seen ≡ Swapped false) × (next ≡ sees_next core p place))
Gives core p (SwapTail from to) seen next =
    (place : ℕ) × MayMoveTail core p from to place
    × ((tail core.words ≡ from) × (seen ≡ Swapped true) × (next ≡ tail_moved core p to place)
    ⊎ (tail core.words ≢ from) × (seen ≡ Swapped false) × (next ≡ reaches_next core p place))
Gives core p Note seen next = (seen ≡ Done) × (next ≡ record core { noted = max core.noted (party core p).seen })
Gives core p (Join note) seen next =
    (note ≤ core.noted) × (seen ≡ Done) × (next ≡ with_party core p (sees (party core p) note))

-- the core has the party, and its step is lawful, gives this answer, and leaves this core
pub record TakesStep (core : CoreValue) (p : ℕ) (step : Step) (seen : Seen) (next : CoreValue) : Type 0 where
  pub party : p < length core.parties
  pub gives : Gives core p step seen next

-- some answer and core are those of the step
abbrev pub IsLawfulStep : CoreValue → ℕ → Step → Type 0
IsLawfulStep core p step = (seen : Seen) × (next : CoreValue) × TakesStep core p step seen next

-- no answer and no core are those of a lawful step
abbrev pub IsUnlawful : CoreValue → ℕ → Step → Type 0
IsUnlawful core p step = (seen : Seen) (next : CoreValue) → TakesStep core p step seen next → ⊥

-- what a step comes to: where it is not lawful nothing changes
abbrev pub ComesTo : CoreValue → ℕ → Step → Result Seen Unlawful → CoreValue → Type 0
ComesTo core p step (Ok seen) next = TakesStep core p step seen next
ComesTo core p step (Err stop) next = IsUnlawful core p step × (next ≡ core)
