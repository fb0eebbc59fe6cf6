use Rattle.std.proofs.Common.{◌+◌, ◌*◌, ◌∙◌, ◌||◌, ap}
use Rattle.front_patch.specs.Bits.{row_in}
use Rattle.front_patch.proofs.Shown.{bin-steady}
use Rattle.front_patch.proofs.taken.Taken.or_bin.Goals as goal

pub returns-clause-rows : goal.returns-clause-rows
returns-clause-rows g c row within steady =
    c.or_pages.ensures.rows row within
    ∙ ap (λ b. row_in c.args.out.now row || b)
    (bin-steady g.S.Log.CommitLog.terms c.args.self.now.seen c.args.self.now.least c.bits.ensures.len
    (3968 * c.args.first + row) c.args.bin c.args.column c.bits.result.now c.bits.ensures.since c.bits.ensures.within
    c.bits.ensures.is steady)
