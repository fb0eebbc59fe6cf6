use Rattle.std.proofs.Common.{◌≡◌, ◌++◌, length}
use Rattle.wah_words.specs.Stretch.{pages_from}
use Rattle.wah_words.proofs.pages.PageWriter.push_pages.Given as goal

abbrev pub invariant-loop-at : goal.invariant-loop-at
invariant-loop-at l = l.writer ≡ l.initial.writer ++ pages_from l.words (length l.initial.writer) l.at
