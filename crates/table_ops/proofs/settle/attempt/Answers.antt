use Rattle.std.proofs.Common.{[], length, sym, refl}
use Rattle.std.proofs.lemmas.List.{append-nil}
use Rattle.cubit_base.specs.Change.{Placed}
use Rattle.cubit_base.specs.History.{after}
use Rattle.table_ops.specs.Changed.{change_of}
use Rattle.table_ops.proofs.Deciding.{outcome-there}
use Rattle.table_ops.proofs.settle.attempt.Goals as goal

pub try_append-requires-clause-author : goal.try_append-requires-clause-author
try_append-requires-clause-author g c =
    let terms = g.L.CommitLog.terms in
    let handle = g.L.CommitLog.handle c.args.log.now in
    let change = change_of c.args.asked.now in
    (c.outcomes.ensures.named terms.limits.row_limit terms.limits.log_limit (after terms.base handle.seen)
    (length handle.seen) handle.author change c.in-Ok.delta
    (outcome-there terms handle.seen c.args.at.now.front c.args.at.now.live c.limits-limits.result
    c.author-author.result handle.author change (Placed c.in-Ok.delta) c.requires.at c.limits-limits.ensures
    c.author-author.ensures c.in-Ok.ensures.outcome)).0

pub returns-in-Ok-try_append-clause-tried : goal.returns-in-Ok-try_append-clause-tried
returns-in-Ok-try_append-clause-tried g c =
    let terms = g.L.CommitLog.terms in
    let handle = g.L.CommitLog.handle c.args.log.now in
    let change = change_of c.args.asked.now in
    record {
      read = handle;
      reads = record { is = refl; begins = ([], sym (append-nil handle.seen)); mine = refl };
      at = c.args.at.now.front;
      delta = c.in-Ok.delta;
      outcome_is = outcome-there terms handle.seen c.args.at.now.front c.args.at.now.live c.limits-limits.result
          c.author-author.result handle.author change (Placed c.in-Ok.delta) c.requires.at c.limits-limits.ensures
          c.author-author.ensures c.in-Ok.ensures.outcome;
      appended = c.in-Ok-try_append.ensures.append;
      place = c.requires.at.whole.whole;
      row = refl;
    }
