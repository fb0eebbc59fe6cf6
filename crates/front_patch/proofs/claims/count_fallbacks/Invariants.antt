use Rattle.std.proofs.Common.{◌≡◌, ◌≤◌, take}
use Rattle.front_patch.specs.Taken.{fallback_count}
use Rattle.front_patch.proofs.claims.count_fallbacks.Given as goal

abbrev pub invariant-loop-claim : goal.invariant-loop-claim
invariant-loop-claim g l = (l.count ≡ fallback_count (take l.claim-index l.claims)) × (l.count ≤ l.claim-index)
