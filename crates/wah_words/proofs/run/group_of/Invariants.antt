use Rattle.std.proofs.Common.{◌≡◌, ◌<◌, ◌^◌, take}
use lib.Lanes.{mask_l}
use Rattle.wah_words.proofs.run.group_of.Given as goal

abbrev pub invariant-loop-place : goal.invariant-loop-place
invariant-loop-place l = (l.group ≡ mask_l (take l.place l.rows)) × (l.group < 2 ^ l.place)
