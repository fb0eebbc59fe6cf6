use Rattle.std.proofs.Common.{◌&&◌}
use Rattle.column_bins.specs.declared.column.Column.TheVariants.{Disc, Ship, Qty, Flag}
use Rattle.front_patch.specs.Taken.{table_at}
use Rattle.selection.specs.Candidates.{is_candidate_at}
use Rattle.selection.specs.Scan.{begins_at, admits_at}
use Rattle.selection.proofs.Admitting.{admitted_at, admitted-candidate}
use Rattle.selection.proofs.Telling.{tells-same}
use Rattle.selection.proofs.scan.Scan.candidates.Goals as goal

pub returns : goal.returns
returns g c =
    let p = c.args.self.now.predicate in
    tells-same (admitted_at p) (is_candidate_at p) (table_at g.S.Log.CommitLog.terms c.args.self.now.taken) c.args.first
    c.narrow-5.new.rows (admitted-candidate p)
    (c.narrow-5.ensures
    (λ t. begins_at p t && admits_at Disc p.disc t && admits_at Ship p.ship t && admits_at Qty p.qty t
    && admits_at Flag p.flag t)
    (c.narrow-4.ensures
    (λ t. begins_at p t && admits_at Disc p.disc t && admits_at Ship p.ship t && admits_at Qty p.qty t)
    (c.narrow-3.ensures (λ t. begins_at p t && admits_at Disc p.disc t && admits_at Ship p.ship t)
    (c.narrow-2.ensures (λ t. begins_at p t && admits_at Disc p.disc t)
    (c.narrow.ensures (begins_at p) c.begin.ensures)))))
