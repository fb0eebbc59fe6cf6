use Rattle.tbl_text.proofs.FirstRepeat.{base_value-distinct, base_value-repeat}
use Rattle.tbl_text.proofs.base.base_of.Goals as goal

pub returns-in-Some-clause-value : goal.returns-in-Some-clause-value
returns-in-Some-clause-value c =
    let reading = c.in_ok-reading in
    base_value-repeat c.args.row_limit c.args.bytes.now reading.reading.rows.table reading.reading.end _ _
    reading.ensures.value (rw c.in-Some.is at c.in_ok-repeat.ensures)

pub returns-in-TooMany-clause-value : goal.returns-in-TooMany-clause-value
returns-in-TooMany-clause-value c =
    let distinct = rw c.in_default.is at c.in_ok-repeat.ensures in
    base_value-distinct c.args.row_limit c.args.bytes.now _ _ _ c.in_ok-reading.ensures.value distinct c.in-TooMany.is

pub returns-in-Faulty-clause-value : goal.returns-in-Faulty-clause-value
returns-in-Faulty-clause-value c =
    let distinct = rw c.in_default.is at c.in_ok-repeat.ensures in
    base_value-distinct c.args.row_limit c.args.bytes.now _ _ _ c.in_ok-reading.ensures.value distinct c.in-Faulty.is

pub returns-in-File-clause-value : goal.returns-in-File-clause-value
returns-in-File-clause-value c =
    let distinct = rw c.in_default.is at c.in_ok-repeat.ensures in
    base_value-distinct c.args.row_limit c.args.bytes.now _ _ _ c.in_ok-reading.ensures.value distinct c.in-File.is
