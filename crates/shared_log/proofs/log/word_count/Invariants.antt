use Rattle.std.proofs.Common.{◌≡◌, ◌+◌, ◌*◌, sum, take}
use Rattle.shared_log.proofs.log.word_count.Given as goal

abbrev pub invariant-loop-share : goal.invariant-loop-share
invariant-loop-share l = l.count ≡ 5 * (1 + sum (take l.share-index l.shares)) + 1
