-- A worker that ran commands one after another, and nobody else replied.
use Rattle.std.specs.Prelude.{◌≡◌, ℕ, ◌≤◌, ◌<◌, List, [], All, flat_map}
use Rattle.std.specs.List.{AllZip}
use Rattle.cubit_base.specs.History.{LimitsFit}
use Rattle.cubit_base.specs.Table.{Row}
use Rattle.cubit_base.specs.declared.command.Command.{Command}
use Rattle.cubit_base.specs.declared.entry.Limits.{Limits}
use Rattle.wah_words.specs.Place.{page_count}
use Rattle.unit_version.specs.BaseValue.{BaseValue}
use Rattle.unit_version.specs.Unit.{unit_count}
use Rattle.commit_log.specs.Handle.{Handle}
use Rattle.query_report.specs.declared.reply.Reply.{Reply}
use Rattle.query_report.specs.ReplyTable.{replies_of}
use Rattle.refresh_streams.specs.Script.{DropsSomeOrder, weights}
use Rattle.cubit_session.specs.Run.{Setting, Answers, marks_of, places_of}
use Rattle.cubit_session.specs.Step.{AddsTo}

-- a script can be run over a table within limits: they fit the table, something is tried, each order that is dropped
-- has a key, and a log holds as many deltas as the commands may place
pub record CanRun (limits : Limits) (table : List Row) (commands : List Command) : Type 0 where
  pub fit : LimitsFit limits.row_limit limits.log_limit table
  pub tries : 1 ≤ limits.tries
  pub orders : All DropsSomeOrder commands
  pub weights : weights commands ≤ 4_194_304

-- a run over a base within limits
abbrev pub run_setting : BaseValue → Limits → Setting
run_setting base limits = record {
  base = base.table;
  row_limit = limits.row_limit;
  log_limit = limits.log_limit;
  units = unit_count (page_count base.row_room);
}

-- from one handle of the log to a later one, by these commands with these replies of worker 0
pub record HasRun (s : Setting) (before after : Handle) (commands : List Command) (replies : List (List Reply))
    : Type 0 where
  pub answers : AllZip (Answers s after.seen before.author) commands (replies_of replies 0)
  pub adds : AddsTo before after (flat_map marks_of (replies_of replies 0)) (flat_map places_of (replies_of replies 0))
  pub others : (worker : ℕ) → 0 < worker → replies_of replies worker ≡ []
