-- What each step of a shared log tells the pass that takes it.
use Rattle.std.specs.Prelude.{◌≡◌, ◌≢◌, ℕ, zero, suc, ◌+◌, ◌<◌, ◌≤◌, ◌==◌, max, true, false, List, [], ◌∷◌, ◌++◌, length, slice_index}
use Rattle.std.specs.List.{count_by}
use mathlib.Core.Option.{some}
use Rattle.atomic_table.specs.Table.{Me, Step as TableStep}
use Rattle.cubit_base.specs.EntryWords.{FitsWords, entry_words}
use Rattle.cubit_base.specs.declared.delta.Delta.{Delta}
use Rattle.cubit_base.specs.declared.entry.Entry.{Entry}
use Rattle.log_core.specs.declared.step.Step.{Step}
use Rattle.log_core.specs.declared.step.Step.TheVariants.{Store, LoadTail, LoadLink, LoadPayload, SwapLink, SwapTail}
use Rattle.log_core.specs.declared.step.Seen.{Seen}
use Rattle.log_core.specs.declared.step.Seen.TheVariants.{Value, Swapped, Done}
use Rattle.log_core.specs.Terms.{CoreTerms, share, node_count}
use Rattle.log_core.specs.Chain.{payload_place, link_place, entry_count, end_at, delta_at, is_by, entry_at}
use Rattle.commit_log.specs.Log.{Terms, IsLog}
use Rattle.commit_log.specs.Handle.{Begins}
use Rattle.shared_log.specs.Fronts.{node_in}
use Rattle.shared_log.specs.Steps.{Knows, IsNext, MayPut}
use Rattle.shared_log.specs.declared.views.PassView.{PassView}
use Rattle.shared_log.specs.declared.views.SeatView.{SeatView}
use Rattle.shared_log.specs.declared.views.SeatView.TheVariants.{Pass}

-- the terms of a shared log, as its callers see them
abbrev pub shared_terms : CoreTerms → Terms
shared_terms terms = record {
  base = terms.base;
  limits = terms.limits;
  node = λ log. node_in terms log (entry_count log);
}

-- what is so of all that a pass has seen: it is a log, whose nodes and entries are those of the parties, and has all that
-- the pass made
pub record KnowsLog (terms : CoreTerms) (view : PassView) : Type 0 where
  pub log : IsLog (shared_terms terms) view.seen
  pub used : view.used ≡ count_by (is_by view.author) view.seen
  pub share : view.used ≤ share terms view.author
  pub author : view.author < length terms.shares
  pub inside : (place : ℕ) → place ≤ entry_count view.seen → node_in terms view.seen place < node_count terms
  pub authors : (place : ℕ) → place < entry_count view.seen →
      (delta_at view.seen place).author < length terms.shares
  pub entries : (place : ℕ) → place < entry_count view.seen → FitsWords (entry_at terms view.seen place)

-- the pass took this step and no other one. What it had seen and what it had met before belong to one log
pub record TookStep (terms : CoreTerms) (view : PassView) (step : Step) (gave : Seen) (later : PassView) : Type 0 where
  pub trace : later.trace ≡ view.trace ++ record { step = step; gave = gave } ∷ []
  pub author : later.author ≡ view.author
  pub begins : Begins view.seen later.seen
  pub knows : KnowsLog terms later
  pub had : Begins view.had view.seen
  pub met : Begins view.met view.seen

-- the tail was loaded: at most one entry stands behind it
pub record LoadsTail (terms : CoreTerms) (view : PassView) (node : ℕ) (later : PassView) : Type 0 where
  pub took : TookStep terms view LoadTail (Value node) later
  pub place : ℕ
  pub known : Knows terms later node place
  pub only : (k : ℕ) → Knows terms later node k → k ≡ place
  pub late : entry_count later.seen ≤ place + 1
  pub used : later.used ≡ view.used
  pub reached : end_at later.seen place ≤ later.reached

-- the link of the node in this place was loaded: it is empty, and the node is the last one, or names the next one
pub record LoadsLink (terms : CoreTerms) (view : PassView) (node place link : ℕ) (later : PassView) : Type 0 where
  pub took : TookStep terms view (LoadLink node) (Value link) later
  pub none : link ≡ 0 → (later.seen ≡ view.seen) × (entry_count view.seen ≡ place)
  pub next : link ≢ 0 → Knows terms later link (place + 1)
      × (entry_count later.seen ≡ max (entry_count view.seen) (place + 1))
  pub used : later.used ≡ view.used
  pub reached : later.reached ≡ view.reached

-- a word of the payload of the node in this place
abbrev pub payload_in : CoreTerms → List Delta → ℕ → ℕ → ℕ
payload_in terms log zero word = 0
payload_in terms log (suc place) word = slice_index (entry_words (entry_at terms log place)) word

-- it was loaded, and nothing more is seen
pub record LoadsPayload (terms : CoreTerms) (view : PassView) (node place word value : ℕ) (later : PassView)
    : Type 0 where
  pub took : TookStep terms view (LoadPayload node word) (Value value) later
  pub is : value ≡ payload_in terms view.seen place word
  pub seen : later.seen ≡ view.seen
  pub used : later.used ≡ view.used
  pub reached : later.reached ≡ view.reached

-- the next node was linked behind the node in this place, with its entry: or another one stands there
pub record SwapsLink (terms : CoreTerms) (view : PassView) (node to place : ℕ) (delta : Delta) (found : ℕ)
    (later : PassView) : Type 0 where
  pub won : found ≡ 0 → TookStep terms view (SwapLink node to) (Swapped true) later
      × (place ≡ entry_count view.seen) × (later.seen ≡ view.seen ++ delta ∷ []) × (later.used ≡ view.used + 1)
      × Knows terms later to (place + 1)
  pub lost : found ≢ 0 → TookStep terms view (SwapLink node to) (Swapped false) later
      × Knows terms later found (place + 1)
      × (entry_count later.seen ≡ max (entry_count view.seen) (place + 1)) × (later.used ≡ view.used)
  pub reached : later.reached ≡ view.reached

-- the tail was moved on from the node in this place, or had been
pub record SwapsTail (terms : CoreTerms) (view : PassView) (from to place found : ℕ) (later : PassView)
    : Type 0 where
  pub took : TookStep terms view (SwapTail from to) (Swapped (found == from)) later
  pub seen : later.seen ≡ view.seen
  pub used : later.used ≡ view.used
  pub reached : end_at view.seen (place + 1) ≤ later.reached

-- a word of the next node was stored
pub record StoresWord (terms : CoreTerms) (view : PassView) (node word value : ℕ) (later : PassView) : Type 0 where
  pub took : TookStep terms view (Store node word value) Done later
  pub seen : later.seen ≡ view.seen
  pub used : later.used ≡ view.used
  pub reached : later.reached ≡ view.reached

-- what a seat and its slots are: a shared log has no slots
abbrev pub Sitting : Type 0
Sitting = Me Delta SeatView

-- what the steps on the table tell, whatever the pass knew
abbrev pub tells_tail : CoreTerms → TableStep Delta → Sitting → ℕ → Sitting → Type 0
tells_tail terms step before found now =
    (view : PassView) → before.0 ≡ Pass view →
    (later : PassView) × (now.0 ≡ Pass later) × LoadsTail terms view found later

abbrev pub tells_link : CoreTerms → TableStep Delta → Sitting → ℕ → Sitting → Type 0
tells_link terms step before found now =
    (view : PassView) (node place : ℕ) → before.0 ≡ Pass view → step.word ≡ link_place node →
    Knows terms view node place → (later : PassView) × (now.0 ≡ Pass later) × LoadsLink terms view node place found later

abbrev pub tells_payload : CoreTerms → TableStep Delta → Sitting → ℕ → Sitting → Type 0
tells_payload terms step before found now =
    (view : PassView) (node place word : ℕ) → before.0 ≡ Pass view → step.word ≡ payload_place node word → word < 4 →
    Knows terms view node place →
    (later : PassView) × (now.0 ≡ Pass later) × LoadsPayload terms view node place word found later

abbrev pub tells_store : CoreTerms → TableStep Delta → Sitting → ℕ → Sitting → Type 0
tells_store terms step before found now =
    (view : PassView) (node word : ℕ) → before.0 ≡ Pass view → step.word ≡ payload_place node word → word < 4 →
    IsNext terms view node →
    (later : PassView) × (now.0 ≡ Pass later) × StoresWord terms view node word step.first later

abbrev pub tells_swap_link : CoreTerms → TableStep Delta → Sitting → ℕ → Sitting → Type 0
tells_swap_link terms step before found now =
    (view : PassView) (node place : ℕ) (e : Entry) → before.0 ≡ Pass view → step.word ≡ link_place node →
    MayPut terms view node step.second place e → step.said ≡ some e.delta →
    (later : PassView) × (now.0 ≡ Pass later)
    × SwapsLink terms view node step.second place e.delta found later

abbrev pub tells_swap_tail : CoreTerms → TableStep Delta → Sitting → ℕ → Sitting → Type 0
tells_swap_tail terms step before found now =
    (view : PassView) (place : ℕ) → before.0 ≡ Pass view → Knows terms view step.first place →
    (later : PassView) × (now.0 ≡ Pass later)
    × SwapsTail terms view step.first step.second place found later
