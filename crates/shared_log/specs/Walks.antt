-- What a walk of a pass comes to.
use Rattle.std.specs.Prelude.{◌≡◌, ℕ, ◌+◌, ◌≤◌, Bool, true, false, List, [], ◌∷◌, ◌++◌, length, slice_index, All, Option, Some, None}
use Rattle.cubit_base.specs.EntryWords.{entry_words}
use Rattle.cubit_base.specs.declared.entry.Entry.{Entry}
use Rattle.log_core.specs.declared.step.Step.{Step}
use Rattle.log_core.specs.declared.step.Step.TheVariants.{LoadLink, LoadPayload}
use Rattle.log_core.specs.declared.step.Seen.TheVariants.{Value}
use Rattle.log_core.specs.Terms.{CoreTerms}
use Rattle.log_core.specs.Chain.{entry_at}
use Rattle.commit_log.specs.Log.{IsPlace, IsEntry}
use Rattle.commit_log.specs.declared.front.Cursor.{Cursor}
use Rattle.shared_log.specs.Told.{shared_terms, KnowsLog}
use Rattle.shared_log.specs.declared.views.TakenStep.{TakenStep}
use Rattle.shared_log.specs.declared.views.PassView.{PassView}

-- nothing more is seen, and nothing was appended
pub record SeesSame (terms : CoreTerms) (view later : PassView) : Type 0 where
  pub seen : later.seen ≡ view.seen
  pub author : later.author ≡ view.author
  pub used : later.used ≡ view.used
  pub knows : KnowsLog terms later

-- the load of a word of a node, and those of its four words
abbrev pub word_load : ℕ → List ℕ → ℕ → TakenStep
word_load node words word = record { step = LoadPayload node word; gave = Value (slice_index words word) }

abbrev pub word_loads : ℕ → List ℕ → List TakenStep
word_loads node words =
    word_load node words 0 ∷ word_load node words 1 ∷ word_load node words 2 ∷ word_load node words 3 ∷ []

-- the words of the node of an entry were loaded
pub record ReadsWords (terms : CoreTerms) (view : PassView) (node place : ℕ) (words : List ℕ) (later : PassView)
    : Type 0 where
  pub sees : SeesSame terms view later
  pub words_are : words ≡ entry_words (entry_at terms view.seen place)
  pub steps : later.trace ≡ view.trace ++ word_loads node words

-- the steps of a walk over one entry: the link of the node before it, and its words
abbrev pub entry_loads : ℕ → ℕ → Entry → List TakenStep
entry_loads node next entry = record { step = LoadLink node; gave = Value next } ∷ word_loads next (entry_words entry)

-- the entry at the cursor was read, which was moved on, by these steps and no other ones
pub record ReadsEntry (terms : CoreTerms) (view : PassView) (cursor : Cursor) (later : PassView) (next : Cursor)
    (entry : Entry) : Type 0 where
  pub sees : SeesSame terms view later
  pub is_entry : IsEntry (shared_terms terms) view.seen cursor.len entry
  pub is_place : IsPlace (shared_terms terms) view.seen next
  pub moved : next.len ≡ cursor.len + 1
  pub steps : later.trace ≡ view.trace ++ entry_loads cursor.node next.node entry

-- the steps of a walk from one cursor to the next
abbrev pub walk_loads : Cursor → Cursor → Option Entry → List TakenStep
walk_loads cursor next None = []
walk_loads cursor next (Some entry) = entry_loads cursor.node next.node entry

-- a step that only loads a word of a node
abbrev pub is_load : Step → Bool
is_load (LoadLink node) = true
is_load (LoadPayload node word) = true
is_load _ = false

-- the pass took some steps, at most so many, all of which are such loads
pub record TakesLoads (view later : PassView) (most : ℕ) : Type 0 where
  pub steps : List TakenStep
  pub trace : later.trace ≡ view.trace ++ steps
  pub within : length steps ≤ most
  pub only : All (λ taken. is_load taken.step ≡ true) steps
