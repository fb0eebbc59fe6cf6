use Rattle.std.proofs.Common.{◌≡◌, ℕ, ◌+◌, ◌*◌, ◌-◌, ◌^◌, ◌<◌, ◌≤◌, All, length}
use Rattle.cubit_base.specs.LiveRow.{tuple_at}
use Rattle.cubit_base.specs.History.{after}
use Rattle.front_patch.specs.Bits.{row_in, passes}
use Rattle.front_patch.specs.Changed.{IsSteady}
use Rattle.front_patch.specs.declared.row_test.RowTest.TheVariants.{IsInBins}
use Rattle.front_patch.proofs.taken.Taken.stretch.Given as goal

abbrev pub invariant-loop-bin : goal.invariant-loop-bin
invariant-loop-bin g l =
    let terms = g.S.Log.CommitLog.terms in
    record {
      low : l.stretch.first ≤ l.bin;
      bin : l.bin - l.stretch.first ≤ l.stretch.after - l.stretch.first;
      long : length l.out ≡ 4096;
      groups : All (λ group. group < 2 ^ 31) l.out;
      rows : (row : ℕ) → row < 126976 → IsSteady terms l.self.seen l.self.least (3968 * l.first + row) →
          row_in l.out row ≡ passes (IsInBins l.column (record { first = l.stretch.first; after = l.bin }))
          (tuple_at (after terms.base l.self.seen) (3968 * l.first + row));
    }

abbrev pub decreases-loop-bin : goal.decreases-loop-bin
decreases-loop-bin g l = l.stretch.after - l.bin
