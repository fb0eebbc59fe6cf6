use Rattle.std.proofs.Common.{◌≡◌, ◌+◌, ◌*◌, ◌∙◌, sym, ap, arith}
use Rattle.cubit_base.specs.Day.{day_value}
use Rattle.tbl_text.proofs.Dates.{date_value-pairs}
use Rattle.tbl_text.proofs.field.date_field.Goals as goal

pub returns-in_ok-day-in-45-clause-value : goal.returns-in_ok-day-in-45-clause-value
returns-in_ok-day-in-45-clause-value c =
    let century = c.in_ok-century-in-45 in
    let year = c.in_ok-year-in-45 in
    let month = c.in_ok-month-in-45 in
    let day = c.in_ok-day-in-45 in
    let is : c.from.result * 100 + c.from-in-45.result ≡ century.century * 100 + year.year = omega arith in
    c.day_of.ensures.value
    ∙ ap (λ y. day_value y month.month day.day) is
    ∙ sym (
    date_value-pairs c.args.field.now _ _ _ _ (omega arith) (omega arith) (omega arith) century.ensures.value
    year.ensures.value month.ensures.value day.ensures.value
    )
