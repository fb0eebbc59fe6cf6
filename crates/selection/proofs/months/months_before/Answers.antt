use Rattle.std.proofs.Common.{◌≡◌, ◌∙◌, sym, arith, false}
use Rattle.std.specs.Prelude.{nat_lt}
use Rattle.std.proofs.lemmas.Bool.Decides.{nat_tests}
use Rattle.column_bins.specs.Plan.{in_stretch}
use Rattle.selection.proofs.Days.{days-none, none-before}
use Rattle.selection.proofs.months.months_before.Goals as goal

pub returns-in-None : goal.returns-in-None
returns-in-None c month =
    let none : in_stretch (record { first = 0; after = 0 }) month ≡ false = grind (arith, nat_tests) in
    none ∙ sym (days-none (λ day. nat_lt day c.args.range.now.lo) month
    (λ day within. none-before c.args.range.now.lo day (omega (arith, c.in-None.ensures))))
