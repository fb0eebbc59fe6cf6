use Rattle.front_patch.proofs.FirstDays.{IsFirst, first-is, from-first, before-first}
use Rattle.front_patch.proofs.values.first_day.Goals as goal

pub returns : goal.returns
returns c =
    let value = rw c.from.ensures at c.day_of.ensures.value in
    let first : IsFirst c.unwrap_or.result c.args.month =
    rw c.unwrap_or.ensures (first-is c.args.month c.day_of.result value) in
    record {
      from = λ day. from-first c.unwrap_or.result c.args.month day first;
      before = λ day. before-first c.unwrap_or.result c.args.month day first;
    }
