-- What a try to append comes to, step by step.
use Rattle.std.specs.Prelude.{◌≡◌, ℕ, ◌+◌, ◌<◌, ◌≤◌, Bool, true, false, List, [], ◌∷◌, ◌++◌, length, take, filter, slice_index, Result, Ok, Err}
use Rattle.cubit_base.specs.Delta.{IsLawful}
use Rattle.cubit_base.specs.EntryWords.{FitsWords}
use Rattle.cubit_base.specs.History.{after, rows_after}
use Rattle.cubit_base.specs.declared.delta.Delta.{Delta}
use Rattle.cubit_base.specs.declared.entry.Entry.{Entry}
use Rattle.log_core.specs.declared.step.Step.{Step}
use Rattle.log_core.specs.declared.step.Step.TheVariants.{SwapLink}
use Rattle.log_core.specs.declared.step.Seen.{Seen}
use Rattle.log_core.specs.declared.step.Seen.TheVariants.{Swapped}
use Rattle.log_core.specs.Terms.{CoreTerms}
use Rattle.log_core.specs.Chain.{end_at}
use Rattle.commit_log.specs.declared.front.Front.{Front}
use Rattle.commit_log.specs.declared.front.AppendStop.{AppendStop}
use Rattle.commit_log.specs.declared.front.AppendStop.TheVariants.{Full, Late}
use Rattle.shared_log.specs.Shown.{stored}
use Rattle.shared_log.specs.Steps.{Knows}
use Rattle.shared_log.specs.Told.{KnowsLog}
use Rattle.shared_log.specs.Calls.{SeesOn}
use Rattle.shared_log.specs.declared.views.TakenStep.{TakenStep}
use Rattle.shared_log.specs.declared.views.PassView.{PassView}

-- the entry has a delta of the pass, and may come next behind the front
pub record IsEntryBehind (terms : CoreTerms) (view : PassView) (at : Front) (e : Entry) : Type 0 where
  pub fits : FitsWords e
  pub author : e.delta.author ≡ view.author
  pub seq : e.seq ≡ at.len + 1
  pub rows : e.rows ≡ rows_after terms.base (take at.len view.seen ++ e.delta ∷ [])
  pub lawful : IsLawful terms.limits.row_limit (after terms.base (take at.len view.seen)) e.delta

-- a step that linked a node: an exchange of a link that gave true
abbrev pub has_linked : Step → Seen → Bool
has_linked (SwapLink node to) (Swapped won) = won
has_linked _ _ = false

-- those of a trace
abbrev pub links_made : List TakenStep → List TakenStep
links_made trace = filter (λ taken. has_linked taken.step taken.gave) trace

-- the step that linked one node behind another
abbrev pub linked_behind : ℕ → ℕ → TakenStep
linked_behind node to = record { step = SwapLink node to; gave = Swapped true }

-- the pass took some steps, at most so many, of which these linked a node
pub record TakesSteps (view later : PassView) (most : ℕ) (links : List TakenStep) : Type 0 where
  pub steps : List TakenStep
  pub trace : later.trace ≡ view.trace ++ steps
  pub within : length steps ≤ most
  pub made : links_made steps ≡ links

-- these words were stored in the pass's next node
pub record StoresEntry (terms : CoreTerms) (view : PassView) (node : ℕ) (words : List ℕ) (later : PassView)
    : Type 0 where
  pub sees : SeesOn terms view later
  pub holds : (w : ℕ) → w < 4 → stored later.trace node w ≡ slice_index words w
  pub steps : TakesSteps view later 4 []

-- the tail was seen at the front's node or behind it, unless something else stands behind that node
pub record ReachesFront (terms : CoreTerms) (view : PassView) (at : Front) (is_last : Bool) (later : PassView)
    : Type 0 where
  pub sees : SeesOn terms view later
  pub keeps : (node w : ℕ) → stored later.trace node w ≡ stored view.trace node w
  pub steps : TakesSteps view later 3 []
  pub reached : is_last ≡ true → end_at later.seen at.len ≤ later.reached
  pub late : is_last ≡ false → at.len < length later.seen

-- the front was that of all that was seen, and the delta was linked behind it, in this node
pub record LinksDelta (terms : CoreTerms) (view : PassView) (at : Front) (to : ℕ) (delta : Delta) (most : ℕ)
    (later : PassView) : Type 0 where
  pub last : at.len ≡ length view.seen
  pub seen : later.seen ≡ view.seen ++ delta ∷ []
  pub author : later.author ≡ view.author
  pub used : later.used ≡ view.used + 1
  pub knows : KnowsLog terms later
  pub known : Knows terms later to (at.len + 1)
  pub steps : TakesSteps view later most (linked_behind at.node to ∷ [])

-- another delta stands behind the front, and nothing was appended
pub record IsBehind (terms : CoreTerms) (view : PassView) (at : Front) (most : ℕ) (later : PassView) : Type 0 where
  pub sees : SeesOn terms view later
  pub longer : at.len < length later.seen
  pub steps : TakesSteps view later most []

-- either of the two, by so many steps at most; where the delta was linked, by one more
abbrev pub MayLink : CoreTerms → PassView → Front → ℕ → Delta → ℕ → PassView → Bool → Type 0
MayLink terms view at to delta most later true = LinksDelta terms view at to delta (most + 1) later
MayLink terms view at to delta most later false = IsBehind terms view at most later

-- how many steps a try to append counts
abbrev pub append_ticks : Result Front AppendStop → ℕ
append_ticks (Ok front) = 9
append_ticks (Err Full) = 0
append_ticks (Err (Late front)) = 11

-- the steps of a try to append, at most as many as it counts: exactly one of them linked a node, where the delta was
-- appended, and else none
abbrev pub AppendTrace : PassView → Front → PassView → Result Front AppendStop → Type 0
AppendTrace view at later (Ok front) = TakesSteps view later 9 (linked_behind at.node front.node ∷ [])
AppendTrace view at later (Err Full) = later ≡ view
AppendTrace view at later (Err (Late front)) = TakesSteps view later 11 []
