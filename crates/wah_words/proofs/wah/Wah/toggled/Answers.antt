use Rattle.std.proofs.Common.{◌≤◌, ◌∙◌, ap, arith, length, subst, sym}
use Rattle.std.proofs.lemmas.List.{length-take-le}
use Rattle.wah_words.specs.Group.{unpacked}
use Rattle.wah_words.specs.Rows.{IsToggled}
use Rattle.wah_words.proofs.Spelled.{length-spelled_rows, length-unpacked}
use Rattle.wah_words.proofs.ToggledRows.{padding_toggled, take_toggled}
use Rattle.wah_words.proofs.wah.Wah.toggled.Goals as goal

pub toggled-requires-clause-longer : goal.toggled-requires-clause-longer
toggled-requires-clause-longer c =
    omega (
      arith,
      c.requires.longer,
      ap length c.self.view_is,
      length-spelled_rows c.self.inside.words.items c.self.inside.rows c.self.invariant,
    )

toggled_is : (c : goal.In_ok-groups) → IsToggled c.args.self.now c.args.places.now (unpacked c.in_ok-groups.groups)
toggled_is c =
    subst (λ list. IsToggled list c.args.places.now (unpacked c.in_ok-groups.groups)) c.self.view_is
    (rw c.deref.ensures.value at c.in_ok-groups.ensures.rows)

pub of_groups-requires-clause-padding : goal.of_groups-requires-clause-padding
of_groups-requires-clause-padding c =
    padding_toggled c.args.self.now (unpacked c.in_ok-groups.groups) c.args.places.now c.args.rows (toggled_is c)
    c.requires.longer c.requires.below

pub returns-clause-length : goal.returns-clause-length
returns-clause-length c =
    let within : c.args.rows ≤ length (unpacked c.in_ok-groups.groups) =
    omega (arith, length-unpacked c.in_ok-groups.groups, c.in_ok-groups.ensures.size) in
    ap length c.of_groups.ensures ∙ length-take-le c.args.rows (unpacked c.in_ok-groups.groups) within

pub returns-clause-rows : goal.returns-clause-rows
returns-clause-rows c =
    let within : c.args.rows ≤ length (unpacked c.in_ok-groups.groups) =
    omega (arith, length-unpacked c.in_ok-groups.groups, c.in_ok-groups.ensures.size) in
    let is : IsToggled c.args.self.now c.args.places.now (unpacked c.in_ok-groups.groups) =
    subst (λ list. IsToggled list c.args.places.now (unpacked c.in_ok-groups.groups)) c.self.view_is
    (rw c.deref.ensures.value at c.in_ok-groups.ensures.rows) in
    subst (IsToggled c.args.self.now c.args.places.now) (sym c.of_groups.ensures)
    (take_toggled c.args.self.now (unpacked c.in_ok-groups.groups) c.args.places.now c.args.rows is
    c.requires.longer c.requires.below within)
