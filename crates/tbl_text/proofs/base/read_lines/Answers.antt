use Rattle.std.proofs.Common.{arith, rules}
use Rattle.tbl_text.proofs.LineByLine.{read-too_many}
use Rattle.tbl_text.proofs.base.read_lines.Goals as goal

pub returns-then-number-row_limit-clause-value : goal.returns-then-number-row_limit-clause-value
returns-then-number-row_limit-clause-value c =
    let rows = c.loop-rest.rows.table in
    read-too_many c.args.row_limit rows c.loop-rest.rest.now c.len-number.result _ (λ none. search rules)
    c.len-number.ensures.value (omega arith) c.loop-rest.invariant.value
