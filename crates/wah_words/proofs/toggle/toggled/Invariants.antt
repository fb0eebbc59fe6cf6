use Rattle.std.proofs.Common.{◌++◌, ◌-◌, replicate}
use Rattle.wah_words.specs.Group.{group_count}
use Rattle.wah_words.specs.Source.{source_left}
use Rattle.wah_words.specs.Word.{groups}
use Rattle.wah_words.proofs.Toggled.{IsToggledTo}
use Rattle.wah_words.proofs.toggle.toggled.Given as goal

abbrev pub invariant-loop-place : goal.invariant-loop-place
invariant-loop-place l =
    IsToggledTo (groups l.words ++ replicate (group_count l.rows - group_count l.old_rows) 0) l.places l.place-index
    l.out (source_left l.source) l.mask l.index
