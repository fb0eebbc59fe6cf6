use Rattle.std.proofs.Common.{◌+◌, ◌≤◌, ◌%◌, ◌^◌, take}
use Rattle.wah_words.specs.Pages.{IsWriting, false_run}
use Rattle.wah_words.proofs.pages.write_mixed.Given as goal

abbrev pub invariant-loop-i : goal.invariant-loop-i
invariant-loop-i l = record {
  writing : IsWriting l.run (take l.i l.page) l.out l.len (false_run l.zeros);
  count : l.zeros ≤ l.run % 2 ^ 30 + l.i;
}
