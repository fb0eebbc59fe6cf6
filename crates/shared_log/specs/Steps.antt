-- The laws of the steps of a shared log: each is a step of whichever core is shown.
use Rattle.std.specs.Prelude.{◌≡◌, ℕ, ◌+◌, ◌<◌, ◌≤◌, List, [], ◌∷◌, ◌++◌, length, slice_index, slice_set, take}
use mathlib.Core.Option.{some}
use lib.ListN.{get_elem?}
use Rattle.cubit_base.specs.Delta.{IsLawful}
use Rattle.cubit_base.specs.History.{after, rows_after}
use Rattle.cubit_base.specs.EntryWords.{FitsWords, entry_words}
use Rattle.cubit_base.specs.declared.delta.Delta.{Delta}
use Rattle.cubit_base.specs.declared.entry.Entry.{Entry}
use Rattle.log_core.specs.declared.step.Step.{Step}
use Rattle.log_core.specs.declared.step.Step.TheVariants.{Store, LoadTail, LoadLink, LoadPayload, SwapLink, SwapTail, Note, Join}
use Rattle.log_core.specs.declared.step.Seen.{Seen}
use Rattle.log_core.specs.declared.step.Seen.TheVariants.{Done}
use Rattle.log_core.specs.Terms.{CoreTerms, share, first_node}
use Rattle.log_core.specs.Chain.{delta_count, entry_count, end_at}
use Rattle.log_core.specs.Core.{CoreValue, IsSound}
use Rattle.log_core.specs.Steps.{TakesStep, IsLawfulStep}
use Rattle.shared_log.specs.Fronts.{longer, node_in}
use Rattle.shared_log.specs.Shown.{Shows, stored, new_view, view_after}
use Rattle.shared_log.specs.declared.views.PassView.{PassView}
use Rattle.shared_log.specs.declared.views.SeatView.{SeatView}
use Rattle.shared_log.specs.declared.views.SeatView.TheVariants.{Pass, Date, Opening, Spent}

-- after a lawful step of a pass's party, in whichever sound core is shown, the words and the views, with the pass's own
-- after it, show the core that the step leaves, which is sound
abbrev pub StepLaw : Step → Type 0
StepLaw step =
    (core next : CoreValue) (words : List ℕ) (views : List SeatView) (seat : ℕ) (view : PassView) (gave : Seen) →
    IsSound core → Shows core words views → get_elem? views seat ≡ some (Pass view) →
    TakesStep core view.author step gave next →
    IsSound next × Shows next next.words (slice_set views seat (Pass (view_after next view step gave)))

-- after a note there is one more seat, a date of all that the pass has seen
abbrev pub DateLaw : Type 0
DateLaw =
    (core next : CoreValue) (words : List ℕ) (views : List SeatView) (seat : ℕ) (view : PassView) (gave : Seen) →
    IsSound core → Shows core words views → get_elem? views seat ≡ some (Pass view) →
    TakesStep core view.author Note gave next → IsSound next
    × Shows next next.words (slice_set views seat (Pass (view_after next view Note gave)) ++ Date view.seen ∷ [])

-- the pass after it met a date
abbrev pub view_met : CoreValue → PassView → List Delta → PassView
view_met core view prefix = record (view_after core view (Join (delta_count prefix)) Done) { had = view.seen; met = prefix }

-- a join of what a date names is lawful. After it the date is spent
abbrev pub MeetLaw : Type 0
MeetLaw =
    (core : CoreValue) (words : List ℕ) (views : List SeatView) (seat other : ℕ) (view : PassView)
    (prefix : List Delta) →
    IsSound core → Shows core words views → get_elem? views seat ≡ some (Pass view) →
    get_elem? views other ≡ some (Date prefix) →
    (next : CoreValue) × TakesStep core view.author (Join (delta_count prefix)) Done next × IsSound next
    × ((view_met next view prefix).seen ≡ longer view.seen prefix)
    × Shows next next.words (slice_set (slice_set views seat (Pass (view_met next view prefix))) other Spent)

-- a copy of a date takes no step: the same core is shown
abbrev pub CopyLaw : Type 0
CopyLaw =
    (core : CoreValue) (words : List ℕ) (views : List SeatView) (seat : ℕ) (prefix : List Delta) →
    Shows core words views → get_elem? views seat ≡ some (Date prefix) → Shows core words (views ++ Date prefix ∷ [])

-- nor does a new pass, the next author's
abbrev pub PassLaw : Type 0
PassLaw =
    (core : CoreValue) (words : List ℕ) (views : List SeatView) (seat n : ℕ) →
    Shows core words views → get_elem? views seat ≡ some (Opening n) → n < length core.terms.shares →
    Shows core words (slice_set views seat (Opening (n + 1)) ++ Pass (new_view n) ∷ [])

-- the node stands in this place of what the pass has seen
pub record Knows (terms : CoreTerms) (view : PassView) (node place : ℕ) : Type 0 where
  pub within : place ≤ entry_count view.seen
  pub is : node ≡ node_in terms view.seen place

-- the node is the pass's next one
pub record IsNext (terms : CoreTerms) (view : PassView) (node : ℕ) : Type 0 where
  pub share : view.used < share terms view.author
  pub is : node ≡ first_node terms view.author + view.used

-- the pass stored this entry in the node, and it may come next behind this place of what the pass has seen
pub record HasReady (terms : CoreTerms) (view : PassView) (node place : ℕ) (e : Entry) : Type 0 where
  pub fits : FitsWords e
  pub words : (w : ℕ) → w < 4 → stored view.trace node w ≡ slice_index (entry_words e) w
  pub author : e.delta.author ≡ view.author
  pub seq : e.seq ≡ end_at view.seen place + 1
  pub rows : e.rows ≡ rows_after terms.base (take place view.seen ++ e.delta ∷ [])
  pub lawful : IsLawful terms.limits.row_limit (after terms.base (take place view.seen)) e.delta

-- the pass may link the node behind the one in this place
pub record MayPut (terms : CoreTerms) (view : PassView) (node to place : ℕ) (e : Entry) : Type 0 where
  pub known : Knows terms view node place
  pub reached : end_at view.seen place ≤ view.reached
  pub room : end_at view.seen place < terms.limits.log_limit
  pub next : IsNext terms view to
  pub ready : HasReady terms view to place e

-- the pass may move the tail on to the node behind the one in this place
pub record MayTurn (terms : CoreTerms) (view : PassView) (from to place : ℕ) : Type 0 where
  pub known : Knows terms view from place
  pub reached : end_at view.seen place ≤ view.reached
  pub next : Knows terms view to (place + 1)

-- what a pass may do, by what it knows
abbrev pub MayTake : CoreTerms → PassView → Step → Type 0
MayTake terms view (Store node word value) = IsNext terms view node × (word < 4)
MayTake terms view LoadTail = Unit {0}
MayTake terms view (LoadLink node) = (place : ℕ) × Knows terms view node place
MayTake terms view (LoadPayload node word) = (place : ℕ) × Knows terms view node place × (word < 4)
MayTake terms view (SwapLink node to) = (place : ℕ) × (e : Entry) × MayPut terms view node to place e
MayTake terms view (SwapTail from to) = (place : ℕ) × MayTurn terms view from to place
MayTake terms view Note = Unit {0}
MayTake terms view (Join note) = ⊥

-- what a pass may do is lawful in whichever sound core is shown
abbrev pub MayLaw : Step → Type 0
MayLaw step =
    (core : CoreValue) (words : List ℕ) (views : List SeatView) (seat : ℕ) (view : PassView) →
    IsSound core → Shows core words views → get_elem? views seat ≡ some (Pass view) →
    MayTake core.terms view step → IsLawfulStep core view.author step
