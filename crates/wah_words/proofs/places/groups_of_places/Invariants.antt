use Rattle.wah_words.proofs.Marks.{IsMarked}
use Rattle.wah_words.proofs.places.groups_of_places.Given as goal

abbrev pub invariant-loop-place : goal.invariant-loop-place
invariant-loop-place l = IsMarked l.places l.place-index l.out l.group l.index
