use Rattle.std.proofs.Common.{refl, Contains}
use Rattle.unit_version.specs.Content.{is_in_bins}
use Rattle.unit_version.specs.declared.unit.Unit.TheVariants.{Bin}
use Rattle.front_patch.specs.Planned.{units_of}
use Rattle.front_patch.specs.Taken.{table_at}
use Rattle.selection.specs.Blocks.{Tells}
use Rattle.selection.specs.Scan.{has_bin_at}
use Rattle.selection.proofs.Scanned.{seen, kept}
use Rattle.selection.proofs.Telling.{GroupLaws, tells-list, bins-row}
use Rattle.selection.proofs.scan.Scan.stretch.Goals as goal

pub stretch-requires-clause-planned : goal.stretch-requires-clause-planned
stretch-requires-clause-planned g c bin has =
    kept c.self.view_is (λ p taken. Contains (units_of taken.plan taken.pages) (Bin c.args.column bin))
    (c.requires bin has)

pub returns : goal.returns
returns g c =
    let terms = g.S.Log.CommitLog.terms in
    let laws : GroupLaws = record { within = c.groups.ensures.within; row = c.groups.ensures.row } in
    seen c.self.view_is
    (λ p taken. Tells (has_bin_at c.args.column c.args.stretch) (table_at terms taken) c.args.first c.stretch.new.out)
    (tells-list (is_in_bins c.args.column c.args.stretch) (has_bin_at c.args.column c.args.stretch)
    (table_at terms c.self.inside.taken.now) c.args.first 4096 c.stretch.new.out laws
    (bins-row c.args.column c.args.stretch) refl c.stretch.array_long c.stretch.ensures)
