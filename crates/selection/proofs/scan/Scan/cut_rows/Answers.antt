use Rattle.std.proofs.Common.{◌≡◌, ◌∙◌, ◌||◌, ℕ, Contains, true, sym, ap}
use Rattle.column_bins.specs.Plan.{has_part, in_stretch, stretch_of}
use Rattle.column_bins.specs.declared.column.Column.TheVariants.{Ship}
use Rattle.unit_version.specs.declared.unit.Unit.TheVariants.{Bin}
use Rattle.front_patch.specs.Planned.{units_of}
use Rattle.front_patch.specs.Taken.{table_at}
use Rattle.selection.specs.Blocks.{Tells}
use Rattle.selection.specs.Candidates.{is_cut_at}
use Rattle.selection.specs.Scan.{has_bin_at}
use Rattle.selection.proofs.Cutting.{cut-some, stretch-some, stretch-bins, bin-in, bin-from, cut-either, some-is}
use Rattle.selection.proofs.Scanned.{seen, kept}
use Rattle.selection.proofs.Telling.{tells-same, tells-either}
use Rattle.selection.proofs.scan.Scan.cut_rows.Given.{Over}
use Rattle.selection.proofs.scan.Scan.cut_rows.Goals.{After-cut_months}
use Rattle.selection.proofs.scan.Scan.cut_rows.Goals as goal

pub unwrap-met-requires : goal.unwrap-met-requires
unwrap-met-requires g c =
    let range = c.self.inside.predicate.now.ship in
    let r = cut-some range (kept c.self.view_is (λ p taken. has_part p.ship ≡ true) c.requires) in
    let s = stretch-some Ship range r.0 c.self.inside.plan.now.ship r.1 (c.self.invariant.stretches Ship) in
    some-is c.self.inside.plan.now.ship s.0 s.1

pub cut_months-requires : goal.cut_months-requires
cut_months-requires g c =
    stretch-bins Ship c.self.inside.predicate.now.ship c.self.inside.plan.now.ship c.unwrap-range.result
    c.unwrap-met.result c.unwrap-range.ensures c.unwrap-met.ensures (c.self.invariant.stretches Ship)

-- the plan has the bins of what is met
planned : (g : Over) (c : After-cut_months g) (bin : ℕ) → in_stretch c.unwrap-met.result bin ≡ true →
    Contains (units_of c.args.self.now.taken.plan c.args.self.now.taken.pages) (Bin Ship bin)
planned g c bin met =
    seen c.self.view_is (λ p taken. Contains (units_of taken.plan taken.pages) (Bin Ship bin))
    (c.units.ensures.bins c.self.inside.taken.now.plan c.self.inside.taken.now.pages Ship c.unwrap-met.result bin
    (ap (stretch_of Ship) c.self.invariant.plan_is ∙ c.unwrap-met.ensures) (bin-from c.unwrap-met.result bin met))

pub stretch-requires : goal.stretch-requires
stretch-requires g c bin has =
    planned g (goal.at.stretch-requires g c).After-cut_months bin
    (c.cut_months.ensures.low_is bin (bin-in c.cut_months.result.0 bin has))

pub stretch-requires-2 : goal.stretch-requires-2
stretch-requires-2 g c bin has =
    planned g (goal.at.stretch-requires-2 g c).After-cut_months bin
    (c.cut_months.ensures.high_is bin (bin-in c.cut_months.result.1 bin has))

pub returns : goal.returns
returns g c =
    let table = table_at g.S.Log.CommitLog.terms c.args.self.now.taken in
    let low = c.cut_months.result.0 in
    let high = c.cut_months.result.1 in
    seen c.self.view_is (λ p taken. Tells (is_cut_at p) table c.args.first c.join.new.groups)
    (tells-same (λ t. has_bin_at Ship low t || has_bin_at Ship high t) (is_cut_at c.self.inside.predicate.now) table
    c.args.first c.join.new.groups
    (cut-either c.self.inside.predicate.now c.unwrap-range.result c.unwrap-met.result low high c.unwrap-range.ensures
    c.cut_months.ensures)
    (tells-either (has_bin_at Ship low) (has_bin_at Ship high) table c.args.first c.stretch.new.out c.stretch-2.new.out
    c.join.new.groups c.join.auto.groups (c.stretch.array_long ∙ sym c.stretch-2.array_long) c.join.ensures.small
    c.join.ensures.rows c.stretch.ensures c.stretch-2.ensures))
