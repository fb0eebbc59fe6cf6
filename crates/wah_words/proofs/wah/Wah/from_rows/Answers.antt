use Rattle.std.proofs.Common.{◌∙◌}
use Rattle.wah_words.proofs.Spelled.{length-held, padding_held, rows_held}
use Rattle.wah_words.proofs.wah.Wah.from_rows.Goals as goal

pub of_groups-requires-clause-size : goal.of_groups-requires-clause-size
of_groups-requires-clause-size c = length-held _ _ c.in_ok-groups.ensures

pub of_groups-requires-clause-padding : goal.of_groups-requires-clause-padding
of_groups-requires-clause-padding c = padding_held _ _ c.in_ok-groups.ensures

pub returns : goal.returns
returns c = c.of_groups.ensures ∙ rows_held _ _ c.in_ok-groups.ensures
