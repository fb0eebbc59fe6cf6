use Rattle.std.proofs.Common.{◌≡◌, ◌∙◌, ap, sym, length}
use Rattle.wah_words.specs.Canonical.{spelled_rows}
use Rattle.wah_words.specs.Rows.{pointwise}
use Rattle.wah_words.proofs.Results.{IsCombined, length-combined, padding-combined, rows-combined, same_rows}
use Rattle.wah_words.proofs.wah.Wah.combined.Goals as goal

pub combined-requires-clause-same : goal.combined-requires-clause-same
combined-requires-clause-same g c =
    let same : c.other.inside.rows ≡ c.self.inside.rows =
    same_rows _ _ _ _ c.self.invariant c.other.invariant
    (ap length c.self.view_is ∙ c.requires.lengths ∙ sym (ap length c.other.view_is)) in
    rw (c.deref.ensures.value, c.deref-2.ensures.value)
    (c.self.invariant.size ∙ sym (rw same at c.other.invariant.size))

pub of_groups-requires-clause-size : goal.of_groups-requires-clause-size
of_groups-requires-clause-size g c =
    let same : c.other.inside.rows ≡ c.self.inside.rows =
    same_rows _ _ _ _ c.self.invariant c.other.invariant
    (ap length c.self.view_is ∙ c.requires.lengths ∙ sym (ap length c.other.view_is)) in
    let made : IsCombined g.O.Operation.of_rows c.in_ok-groups.groups c.self.inside.words.items
    c.other.inside.words.items c.self.inside.rows =
    record {
      left = c.self.invariant;
      right = rw same at c.other.invariant;
      padding = c.requires.padding;
      is = rw (c.deref.ensures.value, c.deref-2.ensures.value) at c.in_ok-groups.ensures;
    } in
    length-combined _ _ _ _ _ made

pub of_groups-requires-clause-padding : goal.of_groups-requires-clause-padding
of_groups-requires-clause-padding g c =
    let same : c.other.inside.rows ≡ c.self.inside.rows =
    same_rows _ _ _ _ c.self.invariant c.other.invariant
    (ap length c.self.view_is ∙ c.requires.lengths ∙ sym (ap length c.other.view_is)) in
    let made : IsCombined g.O.Operation.of_rows c.in_ok-groups.groups c.self.inside.words.items
    c.other.inside.words.items c.self.inside.rows =
    record {
      left = c.self.invariant;
      right = rw same at c.other.invariant;
      padding = c.requires.padding;
      is = rw (c.deref.ensures.value, c.deref-2.ensures.value) at c.in_ok-groups.ensures;
    } in
    padding-combined _ _ _ _ _ made

pub returns : goal.returns
returns g c =
    let bit = g.O.Operation.of_rows in
    let same : c.other.inside.rows ≡ c.self.inside.rows =
    same_rows _ _ _ _ c.self.invariant c.other.invariant
    (ap length c.self.view_is ∙ c.requires.lengths ∙ sym (ap length c.other.view_is)) in
    let made : IsCombined bit c.in_ok-groups.groups c.self.inside.words.items c.other.inside.words.items
    c.self.inside.rows =
    record {
      left = c.self.invariant;
      right = rw same at c.other.invariant;
      padding = c.requires.padding;
      is = rw (c.deref.ensures.value, c.deref-2.ensures.value) at c.in_ok-groups.ensures;
    } in
    c.of_groups.ensures
    ∙ rows-combined _ _ _ _ _ made
    ∙ ap (λ n. pointwise bit (spelled_rows c.self.inside.words.items c.self.inside.rows)
    (spelled_rows c.other.inside.words.items n)) (sym same)
    ∙ ap (λ list. pointwise bit list (spelled_rows c.other.inside.words.items c.other.inside.rows)) c.self.view_is
    ∙ ap (λ list. pointwise bit c.args.self.now list) c.other.view_is
