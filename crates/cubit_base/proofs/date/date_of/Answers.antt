use Rattle.std.proofs.Common.{arith, ◌≡◌, ◌+◌, ◌-◌, ◌∙◌, Some, pos, w16, ap, sym, refl}
use Rattle.std.proofs.lemmas.Int.{to_z_pos}
use Rattle.jiff_core.specs.Date.{ordinal}
use Rattle.cubit_base.proofs.Years.{value_of_parts}
use Rattle.cubit_base.proofs.date.date_of.Goals as goal

pub returns : goal.returns
returns c =
    let is = c.in-Ok.ensures.value in
    let date = c.in-Ok.date in
    let year = c.year_of-year.result.0 in
    let first = c.year_of-year.result.1 in
    let place = c.args.day - first + 1 in
    let same_year : date.year ≡ pos year = is.0 ∙ to_z_pos w16 year (omega arith) in
    let there : pos (ordinal date) ≡ pos place = is.1 ∙ to_z_pos w16 place (omega arith) in
    let is_place : place ≡ ordinal date = cc in
    let back : c.args.day ≡ first + place - 1 = omega arith in
    sym (
    ap Some back
    ∙ value_of_parts date year date.month date.day first place (omega arith) (omega arith) same_year refl refl is_place
    c.year_of-year.ensures.start
    )
