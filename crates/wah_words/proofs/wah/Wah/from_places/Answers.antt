use Rattle.std.proofs.Common.{◌≤◌, ◌∙◌, ap, sym, subst, arith, length, get_or, false, Bool, List, ℕ, ◌↔◌}
use Rattle.std.specs.Prelude.{Contains, IsTrue}
use Rattle.std.proofs.lemmas.List.{length-take-le}
use Rattle.wah_words.specs.Group.{unpacked}
use Rattle.wah_words.proofs.Spelled.{length-unpacked}
use Rattle.wah_words.proofs.Marks.{rows_taken}
use Rattle.wah_words.proofs.wah.Wah.from_places.Goals as goal

pub returns-clause-length : goal.returns-clause-length
returns-clause-length c =
    let within : c.args.rows ≤ length (unpacked c.in_ok-groups.groups) =
    omega (arith, length-unpacked c.in_ok-groups.groups, c.in_ok-groups.ensures.size) in
    ap length c.of_groups.ensures ∙ length-take-le c.args.rows (unpacked c.in_ok-groups.groups) within

pub returns-clause-places : goal.returns-clause-places
returns-clause-places c =
    let within : c.args.rows ≤ length (unpacked c.in_ok-groups.groups) =
    omega (arith, length-unpacked c.in_ok-groups.groups, c.in_ok-groups.ensures.size) in
    let P : List Bool → Type 0 = λ list. (row : ℕ) → IsTrue (get_or list row false) ↔ Contains c.args.places.now row in
    subst P (sym c.of_groups.ensures)
    (rows_taken c.args.places.now c.args.rows
    (unpacked c.in_ok-groups.groups) within c.requires.below c.in_ok-groups.ensures.places)
