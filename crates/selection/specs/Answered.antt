-- Queries, answered at the front of all that was seen in the end.
use Rattle.std.specs.Prelude.{◌≡◌, ℕ, ◌+◌, ◌-◌, ◌*◌, ◌≤◌, Bool, true, false, List, length, Option, Result, Ok, Err}
use Rattle.std.specs.declared.alloc.AllocError.{AllocError}
use Rattle.cubit_base.specs.Answer.{answer}
use Rattle.cubit_base.specs.History.{after}
use Rattle.cubit_base.specs.declared.predicate.Predicate.{Predicate}
use Rattle.column_bins.specs.Plan.{range_of, stretch_of, IsStretch, needs_pages, unit_count}
use Rattle.column_bins.specs.declared.column.Column.{Column}
use Rattle.column_bins.specs.declared.plan_type.Plan.{Plan}
use Rattle.commit_log.specs.Log.{Terms, Stands, IsWhole}
use Rattle.commit_log.specs.Handle.{Handle}
use Rattle.commit_log.specs.declared.front.Front.{Front}
use Rattle.unit_version.specs.declared.unit.Unit.{Unit as IndexUnit}
use Rattle.version_store.specs.Store.{Store, RoseBy}
use Rattle.version_store.specs.Version.{Version}
use Rattle.front_patch.specs.Planned.{units_of}
use Rattle.front_patch.specs.Taken.{fallback_count}
use Rattle.front_patch.specs.Takes.{SeesAndCounts, TellsEach, AreTold, pages_of, least_length}
use Rattle.selection.specs.declared.answer.RowsAnswer.{RowsAnswer}
use Rattle.selection.specs.declared.answer.CountAnswer.{CountAnswer}
use Rattle.selection.specs.declared.answer.SumAnswer.{SumAnswer}

-- the plan has the bins that the predicate meets, and pages where tuples have to be read
pub record IsPlanOf (p : Predicate) (sum : Bool) (plan : Plan) : Type 0 where
  pub stretches : (column : Column) → IsStretch column (range_of column p) (stretch_of column plan)
  pub pages : plan.pages ≡ needs_pages p sum

-- the units of a plan, with the pages of the rows that there are at a front
abbrev pub units_at : Plan → Front → List IndexUnit
units_at plan front = units_of plan (pages_of plan front.rows)

-- a query is answered at the front of all that was seen in the end; what the units of its plan at a first front held
-- was brought there by so many deltas
pub record IsAnswered (terms : Terms) (p : Predicate) (sum : Bool) (tries : ℕ) (handle : Handle) (store : Store)
    (later : Handle) (now : Store) (front : Front) (patched : ℕ) : Type 0 where
  pub whole : IsWhole terms later.seen front
  pub sees : SeesAndCounts patched handle later
  pub plan : Plan
  pub plan_is : IsPlanOf p sum plan
  pub first : Front
  pub stands : Stands terms later.seen first
  pub begins : length handle.seen ≤ first.len
  -- each unit was held once: that showed its version, the told one where versions are told, or lost all tries
  pub asked : TellsEach store.pages (units_at plan first) store.asked now.asked
  pub versions : List (Option Version)
  pub each : length versions ≡ length (units_at plan first)
  pub told : AreTold (λ version. version) (units_at plan first) versions store.told
  pub losses : RoseBy (tries * fallback_count versions) store.losses now.losses
  pub patched_is : patched ≡ front.len - least_length first.len versions

-- what the three queries come to: the answer over the table at that front, if there was memory
abbrev pub Lists : Terms → Predicate → ℕ → Handle → Store → Handle → Store → Result RowsAnswer AllocError → Type 0
Lists terms p tries handle store later now (Err memory) = Unit {0}
Lists terms p tries handle store later now (Ok a) =
    (a.list ≡ (answer (after terms.base later.seen) p).rows)
    × IsAnswered terms p false tries handle store later now a.front a.patched

abbrev pub Counts : Terms → Predicate → ℕ → Handle → Store → Handle → Store → Result CountAnswer AllocError → Type 0
Counts terms p tries handle store later now (Err memory) = Unit {0}
Counts terms p tries handle store later now (Ok a) =
    (a.count ≡ (answer (after terms.base later.seen) p).count)
    × IsAnswered terms p false tries handle store later now a.front a.patched

abbrev pub Sums : Terms → Predicate → ℕ → Handle → Store → Handle → Store → Result SumAnswer AllocError → Type 0
Sums terms p tries handle store later now (Err memory) = Unit {0}
Sums terms p tries handle store later now (Ok a) =
    (a.count ≡ (answer (after terms.base later.seen) p).count)
    × (a.sum ≡ (answer (after terms.base later.seen) p).sum)
    × IsAnswered terms p true tries handle store later now a.front a.patched

-- the most steps: two fronts, those over the deltas, and a hold of each unit that the query needs at its front
abbrev pub query_steps : Predicate → Bool → ℕ → Front → ℕ → ℕ
query_steps p sum tries front patched = 6 + 5 * patched + (2 * tries + 8) * unit_count p sum front.rows
