use Rattle.std.proofs.Common.{◌≡◌, ◌≤◌, take, count_by}
use Rattle.unit_version.specs.Entry.{is_up_to}
use Rattle.unit_version.proofs.keys.search.count_up_to.Given as goal

abbrev pub invariant-loop-entry : goal.invariant-loop-entry
invariant-loop-entry l =
    (l.count ≡ count_by (is_up_to l.code) (take l.entry-index l.entries)) × (l.count ≤ l.entry-index)
