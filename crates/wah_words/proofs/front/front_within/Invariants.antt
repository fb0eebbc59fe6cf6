use Rattle.wah_words.specs.Front.{IsFront}
use Rattle.wah_words.proofs.front.front_within.Given as goal

abbrev pub invariant-loop-at : goal.invariant-loop-at
invariant-loop-at l = IsFront l.words l.most l.at l.groups
