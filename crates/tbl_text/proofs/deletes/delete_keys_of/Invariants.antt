use Rattle.std.proofs.Common.{◌≡◌, ◌+◌, ◌≤◌, length}
use Rattle.tbl_text.specs.DeleteFile.{orders_from}
use Rattle.tbl_text.specs.Lines.{lines_of}
use Rattle.tbl_text.proofs.Orders.{with_front}
use Rattle.tbl_text.proofs.deletes.delete_keys_of.Given as goal

-- the orders so far and what the rest says are what all says
abbrev pub invariant-loop-rest : goal.invariant-loop-rest
invariant-loop-rest l = record {
  value : with_front l.keys (orders_from (length l.keys + 1) (lines_of l.rest)) ≡ orders_from 1 (lines_of l.bytes);
  within : length l.keys + length l.rest ≤ length l.bytes;
}

abbrev pub decreases-loop-rest : goal.decreases-loop-rest
decreases-loop-rest l = length l.rest
