use Rattle.std.proofs.Common.{ℕ, length, ◌+◌, ◌*◌, ◌≤◌, ◌∙◌, ◌||◌, ap, arith, take}
use Rattle.wah_words.specs.Group.{group_at}
use Rattle.cubit_base.specs.History.{after}
use Rattle.cubit_base.specs.LiveRow.{tuple_at}
use Rattle.unit_version.specs.Union.{bins_from}
use Rattle.front_patch.specs.Bits.{passes}
use Rattle.front_patch.specs.Changed.{AreChanged}
use Rattle.front_patch.specs.declared.row_test.RowTest.TheVariants.{IsInBins}
use Rattle.front_patch.proofs.Shown.{states-new, unchanged, bins-none, bins-more, bins-end}
use Rattle.front_patch.proofs.RowTests.{bits-in_bins}
use Rattle.front_patch.proofs.taken.Taken.stretch.Goals as goal

pub loop-bin-init : goal.loop-bin-init
loop-bin-init g c = record {
  low = omega arith;
  bin = omega arith;
  long = c.show_none.array_long;
  groups = c.show_none.ensures.groups;
  rows = λ row within steady. c.show_none.ensures.rows row
      ∙ bins-none c.args.column c.args.stretch.first c.args.stretch.first
      (tuple_at (after g.S.Log.CommitLog.terms.base c.args.self.now.seen) (3968 * c.args.first + row)) (omega arith);
}

pub loop-bin-preserved : goal.loop-bin-preserved
loop-bin-preserved g c =
    let first = c.args.stretch.first in
    let bin = c.loop-bin.bin in
    let low = c.loop-bin.invariant.low in
    let bins = c.or_bins-bin.ensures in
    record {
      low = omega (arith, low);
      bin = omega (arith, low, bins.within);
      long = c.or_bins-bin.array_long;
      groups = bins.groups;
      rows = λ row within steady.
          let tuple = tuple_at (after g.S.Log.CommitLog.terms.base c.args.self.now.seen) (3968 * c.args.first + row) in
          bins.rows row within steady
          ∙ ap (λ b. b || passes (IsInBins c.args.column (bins_from bin c.or_bins-bin.result)) tuple)
          (c.loop-bin.invariant.rows row within steady)
          ∙ bins-more c.args.column first bin c.or_bins-bin.result tuple low;
    }

pub returns : goal.returns
returns g c i within =
    let terms = g.S.Log.CommitLog.terms in
    let now = c.args.self.now in
    let changed = c.changed.result.now in
    let patch = c.changed.ensures in
    let first = c.args.stretch.first in
    let table = after terms.base now.seen in
    let are : (len : ℕ) → now.least ≤ len → len ≤ length now.seen →
    AreChanged changed (after terms.base (take len now.seen)) table = λ len since inside. c.changed_rows.ensures
    terms now.seen now.front now.least now.plan now.pages changed len
    patch since inside in
    c.set_changed.ensures table
    (λ row low none.
    c.loop-bin.invariant.rows row (omega (arith, low, c.loop-bin.invariant.long))
    (λ len since inside.
    unchanged changed (after terms.base (take len now.seen)) table (3968 * c.args.first + row) (are len since inside)
    none)
    ∙ bins-end c.args.column first c.loop-bin.bin c.args.stretch.after (tuple_at table (3968 * c.args.first + row))
    (omega (arith, c.loop-bin.invariant.bin, c.loop-bin-test.false)))
    (states-new changed (after terms.base (take now.least now.seen)) table
    (are now.least (omega arith) (omega (arith, patch.within, patch.whole.whole))))
    i (omega (arith, within, c.set_changed.auto.groups, c.loop-bin.invariant.long))
    ∙ ap (λ list. group_at list (128 * c.args.first + i)) (bits-in_bins c.args.column c.args.stretch table)
