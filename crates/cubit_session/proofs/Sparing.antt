-- How many deltas a command may place.
use Rattle.std.proofs.Common.{ℕ, ◌+◌, ◌≤◌, List, [], ◌∷◌, Result, Ok, Err, ap, arith}
use Rattle.cubit_base.specs.Change.{Change}
use Rattle.cubit_base.specs.Change as changes
use Rattle.cubit_base.specs.Command.{weight_of}
use Rattle.cubit_base.specs.declared.command.Command.{Command}
use Rattle.cubit_base.specs.declared.command.Command.TheVariants.{Insert, Update, Delete, DropOrder, Lookup, Rows, Count, Sum, Q6, Merge}
use Rattle.commit_log.specs.Log.{Terms}
use Rattle.commit_log.specs.Handle.{Handle, with_look}
use Rattle.table_ops.specs.declared.outcome.Placed.{Placed}
use Rattle.table_ops.specs.declared.outcome.OpStop.{OpStop}
use Rattle.table_ops.specs.Changed.{IsChanged}
use Rattle.query_report.specs.declared.reply.DropLine.{DropLine}
use Rattle.query_report.specs.declared.reply.Reply.{Reply}
use Rattle.cubit_session.specs.Step.{Told, Drops, Replies}

spare-changed : (terms : Terms) (a b : Handle) (change : Change) (result : Result Placed OpStop) →
    IsChanged terms (with_look a) change b result → a.spare ≤ b.spare + 1
spare-changed terms a b change (Ok placed) is =
    let read = ap (λ (h : Handle). h.spare) is.reads.is in
    let after = ap (λ (h : Handle). h.spare) is.appended.is in
    omega (arith, read, after)
spare-changed terms a b change (Err stop) is =
    let read = ap (λ (h : Handle). h.spare) is.reads.is in omega (arith, read)

spare-dropped : (terms : Terms) (order number : ℕ) (before now : Told) (lines : List DropLine) →
    Drops terms order number before now lines → before.log.spare + number ≤ now.log.spare + 8
spare-dropped terms order number before now [] (end, same) =
    let spare = ap (λ (t : Told). t.log.spare) same in omega (arith, spare, end)
spare-dropped terms order number before now (line ∷ lines) (between, (result, is, made), rest) =
    let first = spare-changed terms before.log between.log
    (changes.Delete (record { order = order; line = number })) result made.changed in
    let then = spare-dropped terms order (number + 1) between now lines rest in
    omega (arith, first, then)

pub spare-command : (terms : Terms) (tries : ℕ) (command : Command) (before now : Told) (told : Reply) →
    Replies terms tries command before now told → before.log.spare ≤ now.log.spare + weight_of command
spare-command terms tries (Insert key tuple) before now told (result, is, made) =
    spare-changed terms before.log now.log (changes.Insert key tuple) result made.changed
spare-command terms tries (Update key tuple) before now told (result, is, made) =
    spare-changed terms before.log now.log (changes.Update key tuple) result made.changed
spare-command terms tries (Delete key) before now told (result, is, made) =
    spare-changed terms before.log now.log (changes.Delete key) result made.changed
spare-command terms tries (DropOrder order) before now told (lines, is, drops) =
    let dropped = spare-dropped terms order 1 before now lines drops in omega (arith, dropped)
spare-command terms tries (Lookup key) before now told looks =
    let same = ap (λ (h : Handle). h.spare) looks.more.is in omega (arith, same)
spare-command terms tries (Rows p) before now told (a, is, reads, answered) =
    let same = reads.sees.spare in omega (arith, same)
spare-command terms tries (Count p) before now told (a, is, reads, answered) =
    let same = reads.sees.spare in omega (arith, same)
spare-command terms tries (Sum p) before now told (a, is, reads, answered) =
    let same = reads.sees.spare in omega (arith, same)
spare-command terms tries (Q6 p) before now told (a, is, reads, answered) =
    let same = reads.sees.spare in omega (arith, same)
spare-command terms tries Merge before now told (count, is, reads, merged) =
    let same = ap (λ (h : Handle). h.spare) reads.is in omega (arith, same)
