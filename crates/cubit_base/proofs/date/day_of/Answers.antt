use Rattle.std.proofs.Common.{arith, ◌≡◌, ◌∙◌, pos, w8, w16}
use Rattle.std.proofs.lemmas.Int.{to_z_pos}
use Rattle.cubit_base.proofs.Years.{value_of_parts}
use Rattle.cubit_base.proofs.date.day_of.Goals as goal

pub returns-in-Ok-clause-value : goal.returns-in-Ok-clause-value
returns-in-Ok-clause-value c =
    let is = c.in-Ok.ensures.value in
    let year : c.in-Ok.date.year ≡ pos c.args.year = is.0 ∙ to_z_pos w16 c.args.year (omega arith) in
    let month : pos c.in-Ok.date.month ≡ pos c.args.month = is.1 ∙ to_z_pos w8 c.args.month (omega arith) in
    let day : pos c.in-Ok.date.day ≡ pos c.args.day = is.2 ∙ to_z_pos w8 c.args.day (omega arith) in
    value_of_parts c.in-Ok.date c.args.year c.args.month c.args.day c.first_day_of.result c.day_of_year.result
    (omega arith) (omega arith) year month day c.day_of_year.ensures.value c.first_day_of.ensures.start
