use Rattle.std.proofs.Common.{◌≡◌, ◌++◌, map, take}
use Rattle.wah_words.specs.Stretch.{moved}
use Rattle.wah_words.proofs.stretch.push_moved.Given as goal

abbrev pub invariant-loop-place : goal.invariant-loop-place
invariant-loop-place l = l.starts.items
    ≡ l.initial.starts.items ++ map (moved l.from l.to) (take l.place-index l.places)
