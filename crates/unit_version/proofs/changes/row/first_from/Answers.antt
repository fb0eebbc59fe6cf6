use Rattle.std.proofs.Common.{◌+◌, ◌-◌, ◌/◌, arith}
use Rattle.unit_version.proofs.PageChanges.{lower-before, higher-behind}
use Rattle.unit_version.proofs.changes.row.first_from.Goals as goal

pub loop-from-preserved-then-changes-middle : goal.loop-from-preserved-then-changes-middle
loop-from-preserved-then-changes-middle c =
    let middle = c.loop-from.from + (c.loop-from.to - c.loop-from.from) / 2 in
    let inside = c.loop-from.invariant.within in
    record {
      order = omega arith;
      within = inside;
      before = lower-before c.args.changes.now middle c.args.row c.index-changes-middle.result c.requires (omega arith)
          c.if-changes-middle.true;
      behind = c.loop-from.invariant.behind;
    }

pub loop-from-preserved : goal.loop-from-preserved
loop-from-preserved c =
    let middle = c.loop-from.from + (c.loop-from.to - c.loop-from.from) / 2 in
    let inside = c.loop-from.invariant.within in
    record {
      order = omega arith;
      within = omega arith;
      before = c.loop-from.invariant.before;
      behind = higher-behind c.args.changes.now middle c.args.row c.index-changes-middle.result c.requires
          c.if-changes-middle.false;
    }
