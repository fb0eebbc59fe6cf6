use Rattle.unit_version.proofs.SortedCodes.{by_row-sorted, codes-apart}
use Rattle.unit_version.proofs.keys.Keys.of_entries.Goals as goal

pub sort-requires : goal.sort-requires
sort-requires c = codes-apart c.args.rest c.args.entries.items c.requires.apart

pub returns : goal.returns
returns c =
    by_row-sorted c.args.rest c.args.entries.items c.sort.new.entries.items c.sort.ensures.moved c.requires.apart
