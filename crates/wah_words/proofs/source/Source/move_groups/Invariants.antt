use Rattle.std.proofs.Common.{◌-◌, ◌≤◌}
use Rattle.wah_words.specs.Moves.{Moves}
use Rattle.wah_words.specs.Source.{source_left}
use Rattle.wah_words.proofs.source.Source.move_groups.Given as goal

abbrev pub invariant-loop-wanted : goal.invariant-loop-wanted
invariant-loop-wanted l = record {
  within : l.wanted ≤ l.count;
  moved : Moves l.initial.out (source_left l.initial.self) l.out (source_left l.self) (l.count - l.wanted);
}

abbrev pub decreases-loop-wanted : goal.decreases-loop-wanted
decreases-loop-wanted l = l.wanted
