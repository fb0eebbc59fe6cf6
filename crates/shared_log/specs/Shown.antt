-- When the words of a shared log, and what its seats know, show a core.
use Rattle.std.specs.Prelude.{◌≡◌, ℕ, ◌+◌, ◌<◌, ◌≤◌, ◌==◌, ◌&&◌, List, [], ◌∷◌, ◌++◌, length, take, if◌then◌else◌}
use Rattle.std.specs.List.{fold}
use mathlib.Core.Option.{some}
use lib.ListN.{get_elem?}
use Rattle.atomic_table.specs.Table.{State}
use Rattle.cubit_base.specs.declared.delta.Delta.{Delta}
use Rattle.log_core.specs.declared.step.Step.{Step}
use Rattle.log_core.specs.declared.step.Step.TheVariants.{Store, Note, Join}
use Rattle.log_core.specs.declared.step.Seen.{Seen}
use Rattle.log_core.specs.declared.step.Seen.TheVariants.{Done}
use Rattle.log_core.specs.Terms.{CoreTerms, share, first_node}
use Rattle.log_core.specs.Chain.{payload, delta_count}
use Rattle.log_core.specs.Core.{CoreValue, party, IsSound}
use Rattle.commit_log.specs.Handle.{Begins}
use Rattle.shared_log.specs.Fronts.{IsFront, longer}
use Rattle.shared_log.specs.declared.views.TakenStep.{TakenStep}
use Rattle.shared_log.specs.declared.views.PassView.{PassView}
use Rattle.shared_log.specs.declared.views.SeatView.{SeatView}
use Rattle.shared_log.specs.declared.views.SeatView.TheVariants.{Pass, Date, Opening, Spent}

-- a word of a node after a step, which may store it
abbrev pub stored_by : ℕ → ℕ → ℕ → Step → ℕ
stored_by node word now (Store n w value) = if (n == node) && (w == word) then value else now
stored_by node word now _ = now

-- what was last stored in a word of a node: at first it is 0
abbrev pub stored : List TakenStep → ℕ → ℕ → ℕ
stored trace node word = fold (λ now taken. stored_by node word now taken.step) 0 trace

-- the pass is its author's only one, and knows of the core what its party does. The words of the party's nodes are those
-- that it stored there. What it had and what it met begin what it has seen
pub record ShowsPass (core : CoreValue) (given : ℕ) (seats : ℕ → ℕ) (seat : ℕ) (view : PassView) : Type 0 where
  pub author : view.author < given
  pub seat_is : seats view.author ≡ seat
  pub seen : IsFront core.chain.history view.seen (party core view.author).seen
  pub reached : view.reached ≡ (party core view.author).reached
  pub last : view.last ≡ (party core view.author).last
  pub used : view.used ≡ (party core view.author).used
  pub had : Begins view.had view.seen
  pub met : Begins view.met view.seen
  pub drafts : (i w : ℕ) → i < share core.terms view.author → w < 4 →
      payload core.words (first_node core.terms view.author + i) w
      ≡ stored view.trace (first_node core.terms view.author + i) w

-- the party, which has no pass, has made no step
pub record IsIdle (core : CoreValue) (p : ℕ) : Type 0 where
  pub seen : (party core p).seen ≡ 0
  pub reached : (party core p).reached ≡ 0
  pub last : (party core p).last ≡ 0
  pub used : (party core p).used ≡ 0
  pub blank : (i w : ℕ) → i < share core.terms p → w < 4 → payload core.words (first_node core.terms p + i) w ≡ 0

-- what a seat knows is so in the core. A date's prefix was noted. The first seat is the opening
abbrev pub ShowsSeat : CoreValue → ℕ → (ℕ → ℕ) → ℕ → SeatView → Type 0
ShowsSeat core given seats seat (Pass view) = ShowsPass core given seats seat view
ShowsSeat core given seats seat (Date prefix) = (n : ℕ) × (n ≤ core.noted) × IsFront core.chain.history prefix n
ShowsSeat core given seats seat (Opening n) = (seat ≡ 0) × (n ≡ given)
ShowsSeat core given seats seat Spent = Unit {0}

-- the words are the core's, and each seat knows what is so in it. The authors below a number have one pass each, and the
-- others have none
pub record Shows (core : CoreValue) (words : List ℕ) (views : List SeatView) : Type 0 where
  pub given : ℕ
  pub seats : ℕ → ℕ
  pub words_are : core.words ≡ words
  pub within : given ≤ length core.terms.shares
  pub each : (seat : ℕ) (view : SeatView) → get_elem? views seat ≡ some view →
      ShowsSeat core given seats seat view
  pub has : (author : ℕ) → author < given →
      (view : PassView) × (get_elem? views (seats author) ≡ some (Pass view)) × (view.author ≡ author)
  pub idle : (author : ℕ) → given ≤ author → author < length core.terms.shares → IsIdle core author

-- the rule of the table: its words and views show a sound core on these terms
pub record IsRuled (terms : CoreTerms) (state : State Delta SeatView) : Type 0 where
  pub core : CoreValue
  pub terms_are : core.terms ≡ terms
  pub sound : IsSound core
  pub shows : Shows core state.words state.views

-- the pass of an author before its first step
abbrev pub new_view : ℕ → PassView
new_view author = record {
  author = author;
  seen = [];
  reached = 0;
  last = 0;
  used = 0;
  trace = [];
  had = [];
  met = [];
}

-- a pass after a step of its party that left this core
abbrev pub view_after : CoreValue → PassView → Step → Seen → PassView
view_after core view step gave = record {
  author = view.author;
  seen = take (party core view.author).seen core.chain.history;
  reached = (party core view.author).reached;
  last = (party core view.author).last;
  used = (party core view.author).used;
  trace = view.trace ++ record { step = step; gave = gave } ∷ [];
  had = [];
  met = [];
}

-- a pass after a note of all that it has seen, and after it met a date
abbrev pub noting : PassView → PassView
noting view = record view { trace = view.trace ++ record { step = Note; gave = Done } ∷ []; had = []; met = [] }

abbrev pub meeting : PassView → List Delta → PassView
meeting view prefix = record view {
  seen = longer view.seen prefix;
  trace = view.trace ++ record { step = Join (delta_count prefix); gave = Done } ∷ [];
  had = view.seen;
  met = prefix;
}

-- what the seat of a pass knows
abbrev pub pass_of : SeatView → PassView
pass_of (Pass view) = view
pass_of _ = new_view 0

-- how many passes the opening gave
abbrev pub given_of : SeatView → ℕ
given_of (Opening n) = n
given_of _ = 0

-- the prefix that a date names
abbrev pub prefix_of : SeatView → List Delta
prefix_of (Date prefix) = prefix
prefix_of _ = []
