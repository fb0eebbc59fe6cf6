use Rattle.std.proofs.Common.{◌∙◌, ap, map, not}
use Rattle.wah_words.proofs.Results.{IsComplement, length-complement, rows-complement}
use Rattle.wah_words.proofs.wah.Wah.not.Goals as goal

pub of_groups-requires-clause-size : goal.of_groups-requires-clause-size
of_groups-requires-clause-size c =
    let made : IsComplement c.in_ok-groups.groups c.self.inside.words.items c.self.inside.rows =
    record { canonical = c.self.invariant; is = rw c.deref.ensures.value at c.in_ok-groups.ensures } in
    length-complement _ _ _ made

pub returns : goal.returns
returns c =
    let made : IsComplement c.in_ok-groups.groups c.self.inside.words.items c.self.inside.rows =
    record { canonical = c.self.invariant; is = rw c.deref.ensures.value at c.in_ok-groups.ensures } in
    c.of_groups.ensures ∙ rows-complement _ _ _ made ∙ ap (map not) c.self.view_is
