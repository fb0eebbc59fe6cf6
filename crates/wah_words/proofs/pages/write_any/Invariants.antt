use Rattle.std.proofs.Common.{◌+◌, ◌≤◌, ◌%◌, ◌^◌, take}
use Rattle.wah_words.specs.Pages.{IsWriting}
use Rattle.wah_words.proofs.pages.write_any.Given as goal

abbrev pub invariant-loop-i : goal.invariant-loop-i
invariant-loop-i l = record {
  writing : IsWriting l.run (take l.i l.page) l.out l.len l.next;
  count : l.next % 2 ^ 30 ≤ l.run % 2 ^ 30 + l.i;
}
