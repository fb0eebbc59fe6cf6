use Rattle.std.proofs.Common.{◌≡◌, ◌+◌, ◌*◌, ◌∙◌, List, length, sym, ap, subst, arith}
use Rattle.std.proofs.lemmas.Nat.{mul-le}
use Rattle.cubit_base.specs.History.{after}
use Rattle.cubit_base.specs.Table as table
use Rattle.cubit_base.specs.declared.delta.Delta.{Delta}
use Rattle.commit_log.specs.Log.{IsWhole, Stands}
use Rattle.column_bins.specs.Plan.{range_of, stretch_of, IsStretch, unit_count}
use Rattle.column_bins.specs.declared.plan_type.Plan.{Plan}
use Rattle.column_bins.specs.declared.column.Column.{Column}
use Rattle.column_bins.specs.declared.column.Column.TheVariants.{Ship, Disc, Qty, Flag, Status}
use Rattle.front_patch.specs.Planned.{planned_count, units_of}
use Rattle.front_patch.specs.Taken.{table_at}
use Rattle.front_patch.specs.Takes.{pages_of}
use Rattle.selection.specs.Answered.{IsPlanOf}
use Rattle.selection.proofs.Asking.{asked-all, rows-rise, tuples-at}
use Rattle.selection.proofs.Counting.{plan-fits, planned-few}
use Rattle.selection.proofs.asked.ask.Given.{Over}
use Rattle.selection.proofs.asked.ask.Goals.{After-plan-plan}
use Rattle.selection.proofs.asked.ask.Goals as goal

-- the plan's stretches
stretches : (g : Over) (c : After-plan-plan g) (column : Column) →
    IsStretch column (range_of column c.args.predicate.now) (stretch_of column c.plan-plan.result)
stretches g c Ship = c.plan-plan.ensures.ship
stretches g c Disc = c.plan-plan.ensures.disc
stretches g c Qty = c.plan-plan.ensures.qty
stretches g c Flag = c.plan-plan.ensures.flag
stretches g c Status = c.plan-plan.ensures.status

pub take-requires-clause-plan : goal.take-requires-clause-plan
take-requires-clause-plan g c =
    plan-fits c.args.predicate.now c.plan-plan.result
    (stretches g (goal.at.take-requires-clause-plan g c).After-plan-plan)

plan-is : (g : Over) (c : After-plan-plan g) → IsPlanOf c.args.predicate.now c.args.sum c.plan-plan.result
plan-is g c = record { stretches = stretches g c; pages = c.plan-plan.ensures.pages }

pub returns-clause-asked : goal.returns-clause-asked
returns-clause-asked g c =
    let terms = g.S.Log.CommitLog.terms in
    let takes = c.in_ok-taken.ensures.takes in
    let taken = c.in_ok-taken.taken in
    let whole = subst (λ (log : List Delta). IsWhole terms log taken.front) takes.seen takes.whole in
    asked-all terms c.args.predicate.now c.args.sum c.plan-cuts.result.pages c.args.tries
    (g.S.VersionStore.gave c.take.new.store) (g.S.VersionStore.shown c.take.new.store) c.args.base.now
    (g.S.Log.CommitLog.handle c.args.log.now) (g.S.VersionStore.store c.args.store.now)
    (g.S.Log.CommitLog.handle c.take.new.log) (g.S.VersionStore.store c.take.new.store) c.plan-plan.result taken
    (plan-is g (goal.at.returns-clause-asked g c).After-plan-plan) c.plan-cuts.ensures.pages takes
    (tuples-at (table_at terms taken)
    (subst (λ (log : List Delta). table.HasTuples (after terms.base log)) (sym takes.seen)
    (c.rows.ensures.tuples terms.base (g.S.Log.CommitLog.handle c.take.new.log).seen
    (subst table.HasTuples c.requires.standing.table_is c.has_tuples.ensures) c.start.ensures.log.tuples)))
    (omega (
      arith,
      c.prefixes.ensures.rows terms (g.S.Log.CommitLog.handle c.take.new.log).seen taken.front c.start.ensures.log
          whole.stands,
      c.start.ensures.log.limits_fit.most_rows,
    ))

pub returns-clause-steps : goal.returns-clause-steps
returns-clause-steps g c =
    let terms = g.S.Log.CommitLog.terms in
    let takes = c.in_ok-taken.ensures.takes in
    let taken = c.in_ok-taken.taken in
    let seen = (g.S.Log.CommitLog.handle c.take.new.log).seen in
    let log = c.start.ensures.log in
    let whole = subst (λ (log : List Delta). IsWhole terms log taken.front) takes.seen takes.whole in
    let stands = subst (λ (log : List Delta). Stands terms log takes.first) takes.seen takes.stands in
    let rise = rows-rise terms seen takes.first taken.front c.rows.ensures.count log
    (c.prefixes.ensures.log terms seen takes.first.len log) stands whole in
    let few = planned-few c.args.predicate.now c.args.sum c.plan-plan.result takes.first.rows taken.front.rows
    (plan-is g (goal.at.returns-clause-steps g c).After-plan-plan) rise in
    let units : length (units_of taken.plan taken.pages)
    ≡ planned_count c.plan-plan.result (pages_of c.plan-plan.result takes.first.rows) =
    c.units.ensures.count taken.plan taken.pages
    ∙ ap (λ (plan : Plan). planned_count plan taken.pages) takes.plan_is
    ∙ ap (planned_count c.plan-plan.result) takes.pages_are in
    omega (
      arith,
      c.in_ok-taken.ensures.steps,
      mul-le (2 * c.args.tries + 8) (length (units_of taken.plan taken.pages)) (2 * c.args.tries + 8)
          (unit_count c.args.predicate.now c.args.sum taken.front.rows) (omega arith) (omega (arith, units, few)),
    )
