-- What a command may write.
use Rattle.std.specs.Prelude.{◌≡◌, ℕ, ◌+◌, ◌-◌, min, List, [], ◌∷◌, length, sum_by, slice_get, Some, Ok}
use Rattle.cubit_base.specs.Answer.{answer}
use Rattle.cubit_base.specs.Predicate.{q6_predicate}
use Rattle.cubit_base.specs.Table.{Row}
use Rattle.cubit_base.specs.declared.command.Command.{Command}
use Rattle.cubit_base.specs.declared.command.Command.TheVariants.{Insert}
use Rattle.cubit_base.specs.declared.delta.Delta.{Delta}
use Rattle.cubit_base.specs.declared.entry.Limits.{Limits}
use Rattle.cubit_base.specs.declared.table.TheConstants.{ROW_LIMIT}
use Rattle.cubit_io.specs.Held.{Held}
use Rattle.wah_words.specs.Place.{page_count}
use Rattle.unit_version.specs.Unit.{unit_count}
use Rattle.query_report.specs.Answer.{answer_text}
use Rattle.query_report.specs.Drill.{drill_text}
use Rattle.query_report.specs.Report.{report_bytes}
use Rattle.query_report.specs.ReplyTable.{replies_of}
use Rattle.query_report.specs.declared.reply.Reply.{Reply}
use Rattle.query_report.specs.declared.reply.Reply.TheVariants.{Sum}
use Rattle.refresh_streams.specs.Generator.{made}
use Rattle.refresh_streams.specs.Reading.{Contents, WhereTold}
use Rattle.cubit_session.specs.Alone.{IsAlone}
use Rattle.cubit_session.specs.Run.{Setting, IsRun}
use Rattle.cubit_cli.specs.Trouble.{table_at, script_at}
use Rattle.cubit_cli.specs.Words.{Asked, Query, Run, Drill, QueryValue, RunValue, DrillValue, default_limits}

-- a query's text is the line of its answer over the table of its base
pub record IsAnswered (q : QueryValue) (contents : Contents) (text : List ℕ) : Type 0 where
  pub table : List Row
  pub read : table_at ROW_LIMIT contents q.base ≡ Ok table
  pub line :
      let found = answer table (q6_predicate q.year q.disc q.qty) in
      text ≡ answer_text found.count found.sum

-- how many rows a command may add: an insert alone may add one
abbrev pub rows_added : Command → ℕ
rows_added (Insert key tuple) = 1
rows_added command = 0

-- the most rows that there may ever be: those of the base table and those that are added, up to the row limit
abbrev pub row_room : ℕ → List Row → List Command → ℕ
row_room row_limit table commands = min row_limit (length table + sum_by rows_added commands)

-- what the commands run over
abbrev pub setting : Limits → List Row → List Command → Setting
setting limits table commands =
    let rows = row_room limits.row_limit table commands in
    record { base = table; row_limit = rows; log_limit = limits.log_limit; units = unit_count (page_count rows) }

-- one worker's replies to the commands of its script, and the journal
pub record IsSession (limits : Limits) (table : List Row) (commands : List Command) (replies : List (List Reply))
    (journal : List Delta) : Type 0 where
  pub run : IsRun (setting limits table commands) (commands ∷ []) replies journal
  pub alone : IsAlone (setting limits table commands) commands (replies_of replies 0) journal

-- the report of a session
pub record IsReported (limits : Limits) (table : List Row) (commands : List Command) (text : List ℕ) : Type 0 where
  pub replies : List (List Reply)
  pub journal : List Delta
  pub session : IsSession limits table commands replies journal
  pub text_is : text ≡ report_bytes replies journal

-- a run's text is the report of a session over the table of its base, by the commands of its script
pub record IsRunText (r : RunValue) (contents : Contents) (text : List ℕ) : Type 0 where
  pub table : List Row
  pub commands : List Command
  pub base : table_at r.limits.row_limit contents r.base ≡ Ok table
  pub script : script_at contents r.script ≡ Ok commands
  pub reported : IsReported r.limits table commands text

-- the last reply is this sum
pub record EndsInSum (replies : List (List Reply)) : Type 0 where
  pub front : ℕ
  pub count : ℕ
  pub sum : ℕ
  pub patched : ℕ
  pub last :
      let told = replies_of replies 0 in
      slice_get told (length told - 1) ≡ Some (Sum front count sum patched)

-- the lines of a session that ends in a sum
pub record IsDrilled (d : DrillValue) (table : List Row) (commands : List Command) (text : List ℕ) : Type 0 where
  pub replies : List (List Reply)
  pub journal : List Delta
  pub session : IsSession default_limits table commands replies journal
  pub ends : EndsInSum replies
  pub text_is : text ≡ drill_text (record {
    seed = d.seed;
    orders = d.orders;
    base = length table;
    journal = length journal;
    front = ends.front;
    count = ends.count;
    sum = ends.sum;
  })

-- a drill's text is that of a session over the made table, by the made commands, within the default limits
abbrev pub IsDrillText : DrillValue → List ℕ → Type 0
IsDrillText d text = IsDrilled d (made d.orders d.seed).0.0 (made d.orders d.seed).0.1 text

-- the command may write this text
abbrev pub IsReply : Asked → Contents → List ℕ → Type 0
IsReply (Query q) contents text = IsAnswered q contents text
IsReply (Run r) contents text = IsRunText r contents text
IsReply (Drill d) contents text = IsDrillText d text

-- the same, as far as it is told what the files hold; a drill's text is the same whatever they hold
abbrev pub IsReplyWhereTold : Asked → Held → List ℕ → Type 0
IsReplyWhereTold (Query q) held text = WhereTold held (λ contents. IsAnswered q contents text)
IsReplyWhereTold (Run r) held text = WhereTold held (λ contents. IsRunText r contents text)
IsReplyWhereTold (Drill d) held text = IsDrillText d text
