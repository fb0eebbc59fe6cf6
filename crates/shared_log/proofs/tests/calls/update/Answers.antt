use Rattle.std.proofs.Common.{List, Some, take, slice_get, ap, ◌∙◌, inl, inr, refl}
use Rattle.cubit_base.specs.Table.{Row}
use Rattle.cubit_base.specs.Delta.{IsUpdate}
use Rattle.cubit_base.specs.History.{after}
use Rattle.cubit_base.specs.declared.delta.Delta.{Delta}
use Rattle.shared_log.proofs.tests.calls.update.Goals as goal

pub returns-in-Ok-clause-live : goal.returns-in-Ok-clause-live
returns-in-Ok-clause-live g c =
    let terms = g.L.CommitLog.terms in
    let handle = g.L.CommitLog.handle in
    let table = after terms.base (take c.args.at.now.len (handle c.args.log.now).seen) in
    let delta : Delta = record {
      author = c.author.result;
      row = 0;
      key = c.args.key;
      before = Some c.args.tuples.0;
      after = Some c.args.tuples.1;
    } in
    let change : IsUpdate table delta = record { before = refl; after = refl; row = c.requires.live } in
    ap (λ (t : List Row). slice_get t 0)
    (c.appends.ensures.table terms (handle c.args.log.now) (handle c.try_append.new.self) c.args.at.now c.in-Ok.front
    delta c.in-Ok.ensures.append)
    ∙ c.deltas.ensures.own terms.limits.row_limit table delta (inr (inl change))
