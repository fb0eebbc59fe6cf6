-- Plans of predicates.
use Rattle.std.proofs.Common.{◌≡◌, ◌∙◌, ◌&&◌, Option, Some, None, is_none, refl, ap}
use Rattle.cubit_base.specs.declared.predicate.Range.{Range}
use Rattle.cubit_base.specs.declared.predicate.Predicate.{Predicate}
use Rattle.column_bins.specs.Plan.{range_of, stretch_of, IsStretch, is_open}
use Rattle.column_bins.specs.declared.column.Column.{Column}
use Rattle.column_bins.specs.declared.column.Column.TheVariants.{Ship, Disc, Qty, Flag, Status}
use Rattle.column_bins.specs.declared.plan_type.Plan.{Plan}
use Rattle.column_bins.specs.declared.plan_type.Stretch.{Stretch}
use Rattle.front_patch.specs.Planned as planned

none-same : (column : Column) (range : Option Range) (stretch : Option Stretch) → IsStretch column range stretch →
    is_none stretch ≡ is_none range
none-same column None stretch is = ap (λ (s : Option Stretch). is_none s) is
none-same column (Some r) None is = absurd is
none-same column (Some r) (Some s) is = refl

-- a plan restricts no column where the predicate restricts none
pub open-plan : (p : Predicate) (plan : Plan) →
    ((column : Column) → IsStretch column (range_of column p) (stretch_of column plan)) →
    planned.is_open plan ≡ is_open p
open-plan p plan are =
    let none = λ (column : Column). none-same column (range_of column p) (stretch_of column plan) (are column) in
    ap (λ b. b && is_none plan.disc && is_none plan.qty && is_none plan.flag && is_none plan.status) (none Ship)
    ∙ ap (λ b. is_none p.ship && b && is_none plan.qty && is_none plan.flag && is_none plan.status) (none Disc)
    ∙ ap (λ b. is_none p.ship && is_none p.disc && b && is_none plan.flag && is_none plan.status) (none Qty)
    ∙ ap (λ b. is_none p.ship && is_none p.disc && is_none p.qty && b && is_none plan.status) (none Flag)
    ∙ ap (λ b. is_none p.ship && is_none p.disc && is_none p.qty && is_none p.flag && b) (none Status)
