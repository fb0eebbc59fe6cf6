-- What a worker's replies tell besides, where it has its log and its units to itself.
use Rattle.std.specs.Prelude.{◌≡◌, ℕ, ◌+◌, ◌-◌, ◌≤◌, ◌==◌, All, Some, Bool, true, false, List, ◌∷◌, length, if◌then◌else◌}
use Rattle.cubit_base.specs.declared.command.Command.{Command}
use Rattle.cubit_base.specs.declared.delta.Delta.{Delta}
use Rattle.cubit_base.specs.declared.predicate.Predicate.{Predicate}
use Rattle.column_bins.specs.Plan.{unit_count}
use Rattle.commit_log.specs.Log.{Terms, IsLog}
use Rattle.unit_version.specs.Unit.{IsUnit}
use Rattle.unit_version.specs.declared.unit.Unit.{Unit as IndexUnit}
use Rattle.version_store.specs.Version.{Version}
use Rattle.query_report.specs.declared.reply.Reply.{Reply}
use Rattle.query_report.specs.declared.reply.Reply.TheVariants.{Rows, Count, Sum, Q6, Merge}
use Rattle.cubit_base.specs.declared.command.Command.TheVariants as command
use Rattle.cubit_session.specs.Run.{Setting, table_at, places_of}
use Rattle.cubit_session.specs.Step.{Told}

-- how far a worker has come: how many deltas it placed, and how many of them its last merge knew of
pub record Progress : Type 0 where
  pub placed : ℕ
  pub merged : ℕ

-- a query's units stand at the last merge, so they are brought on by all deltas since; where it needs no unit, by none
abbrev pub patched_alone : Predicate → Bool → ℕ → Progress → ℕ
patched_alone p sum rows at = if unit_count p sum rows == 0 then 0 else at.placed - at.merged

-- all units are fresh where nothing was placed since the last merge, and else all are merged; none is busy
pub record MergesAlone (units : ℕ) (at : Progress) (merged fresh busy : ℕ) : Type 0 where
  pub merged_is : merged ≡ (if at.merged == at.placed then 0 else units)
  pub fresh_is : fresh ≡ (if at.merged == at.placed then units else 0)
  pub busy_is : busy ≡ 0

-- the reply to a command, where the table has so many rows before it
abbrev pub TellsAlone : ℕ → ℕ → Progress → Command → Reply → Type 0
TellsAlone units rows at (command.Rows p) (Rows front list patched) = patched ≡ patched_alone p false rows at
TellsAlone units rows at (command.Count p) (Count front count patched) = patched ≡ patched_alone p false rows at
TellsAlone units rows at (command.Sum p) (Sum front count sum patched) = patched ≡ patched_alone p true rows at
TellsAlone units rows at (command.Q6 p) (Q6 front count sum patched) = patched ≡ patched_alone p true rows at
TellsAlone units rows at command.Merge (Merge merged fresh busy) = MergesAlone units at merged fresh busy
TellsAlone units rows at asked told = Unit {0}

-- after a command with its reply
abbrev pub merged_after : Command → Progress → ℕ
merged_after command.Merge at = at.placed
merged_after asked at = at.merged

abbrev pub went_on : Progress → Command → Reply → Progress
went_on at asked told = record { placed = at.placed + length (places_of told); merged = merged_after asked at }

-- and after commands with theirs
abbrev pub reached : Progress → List Command → List Reply → Progress
reached at (asked ∷ commands) (told ∷ replies) = reached (went_on at asked told) commands replies
reached at commands replies = at

-- the replies to a worker's commands, each told behind the deltas that the commands before it placed
abbrev pub IsAloneFrom : Setting → List Delta → Progress → List Command → List Reply → Type 0
IsAloneFrom s journal at (asked ∷ commands) (told ∷ replies) =
    TellsAlone s.units (length (table_at s journal at.placed)) at asked told
    × IsAloneFrom s journal (went_on at asked told) commands replies
IsAloneFrom s journal at commands replies = Unit {0}

abbrev pub from_start : Progress
from_start = record { placed = 0; merged = 0 }

-- the same from the start on
abbrev pub IsAlone : Setting → List Command → List Reply → List Delta → Type 0
IsAlone s commands replies journal = IsAloneFrom s journal from_start commands replies

-- a worker has its log to itself: all deltas are its own
pub record OwnsLog (terms : Terms) (told : Told) : Type 0 where
  pub log : IsLog terms told.log.seen
  pub own : All (λ d. d.author ≡ told.log.author) told.log.seen

-- and its store: it lost no turn, and each version is told, and stands at the last merge
pub record StandsAt (told : Told) (merged : ℕ) : Type 0 where
  pub within : merged ≤ length told.log.seen
  pub lossless : told.store.losses ≡ 0
  pub version : IndexUnit → Version
  pub told_is : told.store.told ≡ Some version
  pub each : (unit : IndexUnit) → IsUnit told.store.pages unit → (version unit).front.len ≡ merged

-- such a worker ran these commands with these replies
pub record HasRunAlone (s : Setting) (told : Told) (commands : List Command) (replies : List Reply) : Type 0 where
  pub each : length commands ≡ length replies
  pub alone : IsAlone s commands replies told.log.seen
  pub placed : (reached from_start commands replies).placed ≡ length told.log.seen
  pub stands : StandsAt told (reached from_start commands replies).merged
