use Rattle.std.proofs.Common.{rules}
use Rattle.std.proofs.lemmas.List.Sorted.{IsNonDecreasingBy-from_sort_by_key}
use Rattle.unit_version.specs.declared.keys.entry.Entry.{Entry}
use Rattle.unit_version.proofs.SortedCodes.{rising-sorted}
use Rattle.unit_version.proofs.keys.order.sort.Goals as goal

pub returns-then-not-are_rising-clause-rising : goal.returns-then-not-are_rising-clause-rising
returns-then-not-are_rising-clause-rising c =
    let up = IsNonDecreasingBy-from_sort_by_key (λ (e : Entry). e.code) _ c.sort_unstable_by_key.ensures.sorted
    (λ a r q k. search rules) in
    rising-sorted c.args.entries.now.items c.sort_unstable_by_key.new.self.items
    c.sort_unstable_by_key.ensures.permutation c.requires up
