use Rattle.wah_words.proofs.Reading.{IsReadTo}
use Rattle.wah_words.proofs.run.is_canonical.Given as goal

abbrev pub invariant-loop-word : goal.invariant-loop-word
invariant-loop-word l = IsReadTo l.words l.rows l.word-index l.previous l.left
