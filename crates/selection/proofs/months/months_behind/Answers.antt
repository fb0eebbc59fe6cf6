use Rattle.std.proofs.Common.{◌≡◌, ◌∙◌, sym, arith, false}
use Rattle.std.specs.Prelude.{nat_lt}
use Rattle.std.proofs.lemmas.Bool.Decides.{nat_tests}
use Rattle.cubit_base.specs.declared.predicate.Range.{Range}
use Rattle.cubit_base.specs.Predicate.{in_range}
use Rattle.column_bins.specs.Plan.{in_stretch}
use Rattle.selection.proofs.Days.{days-none, days-same, met-days, none-behind, in-behind}
use Rattle.selection.proofs.months.months_behind.Goals as goal

pub returns-in-Some : goal.returns-in-Some
returns-in-Some c month =
    let hi = c.args.range.now.hi in
    let range : Range = record { lo = c.in-Some.lo; hi = 65535 } in
    c.months_of.ensures month ∙ met-days range month
    ∙ days-same (in_range range) (λ day. nat_lt hi day) month
    (λ day within. in-behind c.in-Some.lo hi day (omega (arith, c.in-Some.ensures)) within)

pub returns-in-None : goal.returns-in-None
returns-in-None c month =
    let none : in_stretch (record { first = 0; after = 0 }) month ≡ false = grind (arith, nat_tests) in
    none ∙ sym (days-none (λ day. nat_lt c.args.range.now.hi day) month
    (λ day within. none-behind c.args.range.now.hi day (omega (arith, c.in-None.ensures)) within))
