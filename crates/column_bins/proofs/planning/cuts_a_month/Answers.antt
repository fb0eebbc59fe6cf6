use Rattle.std.proofs.Common.{arith, sym, ap, not, inl, inr, ⊎_elim, eq-eqb, ne_eqb, ◌+◌, ◌∙◌}
use Rattle.std.proofs.lemmas.Bool.{cases_eq, le-ltb}
use Rattle.column_bins.proofs.Parts.{BeginsMonth, part-low, part-high, part-none, part-empty}
use Rattle.column_bins.proofs.planning.cuts_a_month.Goals as goal

pub returns-then-lo-hi : goal.returns-then-lo-hi
returns-then-lo-hi c = sym (part-empty c.args.range.now c.min-hi.result c.min-hi.ensures (omega arith))

pub returns-then-month_and_day-ne1 : goal.returns-then-month_and_day-ne1
returns-then-month_and_day-ne1 c =
    let day = c.month_and_day in
    ap not (ne_eqb day.result.1 1 c.if-month_and_day-ne1.true)
    ∙ sym (
    part-low c.args.range.now c.min-hi.result day.result.1 c.min-hi.ensures c.if-lo-hi.false
    (rw day.ensures.month at day.ensures.place) c.if-month_and_day-ne1.true day.ensures.first
    )

pub returns-then-hi-lt2556 : goal.returns-then-hi-lt2556
returns-then-hi-lt2556 c =
    let r = c.args.range.now in
    let first = c.month_and_day in
    let next = c.month_and_day-then-hi-lt2556 in
    let at = rw first.ensures.month at first.ensures.place in
    let at_next = rw next.ensures.month at next.ensures.place in
    let begins : BeginsMonth r.lo = omega (arith, at) in
    ⊎_elim
    (λ whole.
    let ends : BeginsMonth (c.min-hi.result + 1) = omega (arith, at_next) in
    ap not (eq-eqb next.result.1 1 whole)
    ∙ sym (part-none r c.min-hi.result c.min-hi.ensures c.if-lo-hi.false begins (inr ends)))
    (λ cut.
    ap not (ne_eqb next.result.1 1 cut)
    ∙ sym (
    part-high r c.min-hi.result next.result.1 c.min-hi.ensures c.if-lo-hi.false c.if-hi-lt2556.true at_next cut
    next.ensures.first
    ))
    (cases_eq next.result.1 1)

pub returns-else-hi-lt2556 : goal.returns-else-hi-lt2556
returns-else-hi-lt2556 c =
    let r = c.args.range.now in
    let first = c.month_and_day in
    let at = rw first.ensures.month at first.ensures.place in
    let begins : BeginsMonth r.lo = omega (arith, at) in
    le-ltb c.min-hi.result 2556 c.if-hi-lt2556.false
    ∙ sym (part-none r c.min-hi.result c.min-hi.ensures c.if-lo-hi.false begins (inl (omega arith)))
