use Rattle.std.proofs.Common.{◌+◌, ◌*◌, ◌∙◌, ◌||◌, ap}
use Rattle.unit_version.specs.Union.{bins_from}
use Rattle.front_patch.specs.Bits.{row_in}
use Rattle.front_patch.proofs.Shown.{union-steady}
use Rattle.front_patch.proofs.taken.Taken.or_bins.Goals as goal

pub returns-in-Some-clause-rows : goal.returns-in-Some-clause-rows
returns-in-Some-clause-rows g c row within steady =
    let is = c.in-Some.ensures in
    c.or_plain.ensures.rows row within
    ∙ ap (λ b. row_in c.args.out.now row || b)
    (union-steady g.S.Log.CommitLog.terms c.args.self.now.seen c.args.self.now.least (3968 * c.args.first + row)
    c.args.column (bins_from c.args.bin c.in-Some.bins) c.in-Some.union.now is.least_is is.is steady)
