-- What is left of words and of false rows after them.
use Rattle.std.specs.Prelude.{ℕ, List, ◌++◌, replicate}
use Rattle.wah_words.specs.declared.source.Source.{Source}
use Rattle.wah_words.specs.Word.{groups}

-- the rest of the run, the groups of the words after it, and groups of false rows
abbrev pub source_left : Source → List ℕ
source_left s = replicate s.run.count s.run.group ++ (groups s.words.now ++ replicate s.false_groups 0)
