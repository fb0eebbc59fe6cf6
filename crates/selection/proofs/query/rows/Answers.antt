use Rattle.std.proofs.Common.{◌≡◌, ◌+◌, ◌≤◌, ◌∙◌, List, ap, subst}
use Rattle.cubit_base.specs.History.{after}
use Rattle.cubit_base.specs.declared.delta.Delta.{Delta}
use Rattle.front_patch.specs.Taken.{table_at}
use Rattle.version_store.specs.Store.{Store}
use Rattle.selection.specs.Candidates.{part_count}
use Rattle.selection.proofs.query.rows.Goals as goal

pub returns-in_err-list-clause-reads : goal.returns-in_err-list-clause-reads
returns-in_err-list-clause-reads g c =
    let terms = g.S.Log.CommitLog.terms in
    let most = λ (seen : List Delta). c.rows-list.new.reads
    ≤ c.args.reads.now + part_count c.args.predicate.now (after terms.base seen) in
    subst most c.in_ok-asked.ensures.asked.seen
    (subst (λ s. c.rows-list.new.reads ≤ c.args.reads.now + part_count s.predicate (table_at terms s.taken))
    c.new.ensures c.rows-list.ensures.reads)

pub returns-clause-reads : goal.returns-clause-reads
returns-clause-reads g c =
    let terms = g.S.Log.CommitLog.terms in
    let most = λ (seen : List Delta). c.rows-list.new.reads
    ≤ c.args.reads.now + part_count c.args.predicate.now (after terms.base seen) in
    subst most c.in_ok-asked.ensures.asked.seen
    (subst (λ s. c.rows-list.new.reads ≤ c.args.reads.now + part_count s.predicate (table_at terms s.taken))
    c.new.ensures c.rows-list.ensures.reads)

pub returns-clause-standing : goal.returns-clause-standing
returns-clause-standing g c =
    let stood = c.requires.standing in
    record {
      none_lent = ap (λ (s : Store). s.lent) c.close.ensures.store;
      over = c.close.ensures.over c.ask.new.log c.ask.ensures.over;
      pages_are = ap (λ (s : Store). s.pages) c.close.ensures.store ∙ c.ask.ensures.keeps.pages ∙ stood.pages_are;
      table_is = stood.table_is;
      row_room = stood.row_room;
      tries = stood.tries;
    }
