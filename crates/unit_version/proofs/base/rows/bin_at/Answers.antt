use Rattle.std.proofs.Common.{◌∙◌, sym}
use Rattle.unit_version.proofs.RowBits.{bin-read, bin-past}
use Rattle.unit_version.proofs.base.rows.bin_at.Goals as goal

pub returns-in-Some : goal.returns-in-Some
returns-in-Some c =
    c.bin_or_none.ensures c.in-Some.field-0-0
    ∙ bin-read c.args.column c.args.table.now c.args.row _ (sym c.row.ensures ∙ c.in-Some.is)

pub returns-in-None : goal.returns-in-None
returns-in-None c = bin-past c.args.column c.args.table.now c.args.row (sym c.row.ensures ∙ c.in-None.is)
