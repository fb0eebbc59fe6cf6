use Rattle.std.proofs.Common.{◌≡◌, ◌+◌, ◌*◌, ◌<◌, ◌≤◌, ℕ, length, map, slice_index}
use Rattle.unit_version.specs.Content.{is_live}
use Rattle.wah_words.specs.Group.{group_at}
use Rattle.front_patch.specs.Taken.{table_at}
use Rattle.selection.proofs.scan.Scan.live_rows.Given as goal

abbrev pub invariant-loop-k : goal.invariant-loop-k
invariant-loop-k g l = record {
  long : length l.rows ≡ 4096;
  few : l.k ≤ 32;
  done : (i : ℕ) → i < 128 * l.k → slice_index l.rows i
      ≡ group_at (map is_live (table_at g.S.Log.CommitLog.terms l.self-inside.taken.now)) (128 * l.first + i);
}
