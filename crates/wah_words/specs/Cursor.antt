-- What is left of words.
use Rattle.std.specs.Prelude.{ℕ, List, ◌++◌, replicate}
use Rattle.wah_words.specs.declared.cursor.Cursor.{Cursor}
use Rattle.wah_words.specs.Word.{groups}

-- the rest of the run, and the groups of the words after it
abbrev pub groups_left : Cursor → List ℕ
groups_left c = replicate c.run.count c.run.group ++ groups c.words.now
