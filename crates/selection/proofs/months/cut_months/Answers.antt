use Rattle.std.proofs.Common.{◌≡◌, ◌∙◌, ◌&&◌, ◌||◌, Bool, true, false, refl, sym, ap}
use Rattle.std.specs.Prelude.{nat_lt}
use Rattle.std.proofs.lemmas.Bool.{and_parts}
use Rattle.column_bins.specs.Plan.{in_stretch, is_met}
use Rattle.column_bins.specs.declared.column.Column.TheVariants.{Ship}
use Rattle.selection.specs.Months.{has_day}
use Rattle.selection.proofs.Days.{part-days}
use Rattle.selection.proofs.months.cut_months.Goals as goal

apart : (met before behind : Bool) → ((met && before) || (met && behind)) ≡ (met && (before || behind))
apart true before behind = refl
apart false before behind = refl

pub returns : goal.returns
returns c =
    let range = c.args.range.now in
    let met = c.args.met in
    let before = c.months_before.result in
    let behind = c.months_behind.result in
    record {
      all = λ month.
          ap (λ b. b || in_stretch c.common-2.result month) (c.common.ensures month)
          ∙ ap (λ b. (in_stretch met month && in_stretch before month) || b) (c.common-2.ensures month)
          ∙ apart (in_stretch met month) (in_stretch before month) (in_stretch behind month)
          ∙ ap (λ b. b && (in_stretch before month || in_stretch behind month)) (c.requires month)
          ∙ ap (λ b. is_met Ship range month && (b || in_stretch behind month)) (c.months_before.ensures month)
          ∙ ap (λ b. is_met Ship range month && (has_day (λ day. nat_lt day range.lo) month || b))
          (c.months_behind.ensures month)
          ∙ sym (part-days range month);
      low_is = λ month is.
          (and_parts (in_stretch met month) (in_stretch before month) (sym (c.common.ensures month) ∙ is)).0;
      high_is = λ month is.
          (and_parts (in_stretch met month) (in_stretch behind month) (sym (c.common-2.ensures month) ∙ is)).0;
    }
