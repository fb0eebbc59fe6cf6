use Rattle.std.proofs.Common.{length, subst, sym, arith}
use Rattle.unit_version.specs.Merged.{AreBefore}
use Rattle.unit_version.specs.declared.changes.keyed.KeyChange.{KeyChange}
use Rattle.unit_version.proofs.Merging.{merged-more, done-more, passed-more}
use Rattle.unit_version.proofs.keys.merged.merged.Goals as goal

pub loop-change-preserved : goal.loop-change-preserved
loop-change-preserved c =
    let entries = c.args.entries.now in
    let changes = c.args.changes.now in
    let i = c.loop-change.change-index in
    let e = c.change-item.result in
    let out = c.loop-change.out.items in
    let new = c.merge.new.out.items in
    let from = c.loop-change.from in
    let next = c.in_ok-from.from in
    let step = c.in_ok-from.ensures in
    let done = subst (λ (x : KeyChange). AreBefore x.code (length out) out) (sym c.change-item.is)
    (c.loop-change.invariant.done i e (omega arith) c.loop-change-test.true) in
    record {
      within = step.is_gap.within;
      so_far = merged-more entries changes i e from out new next c.requires.rising c.requires.changes
          c.loop-change-test.true c.change-item.is c.loop-change.invariant.so_far done step;
      passed = passed-more entries changes i e from out new next c.requires.rising c.requires.changes
          c.loop-change-test.true c.change-item.is c.loop-change.invariant.so_far done step;
      done = done-more entries changes i e from out new next c.requires.rising c.requires.changes
          c.loop-change-test.true c.change-item.is c.loop-change.invariant.so_far done step;
    }
