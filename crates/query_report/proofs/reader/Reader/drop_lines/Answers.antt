use Rattle.query_report.proofs.Drops.{drop-reads, drop_lines-read}
use Rattle.query_report.proofs.reader.Reader.drop_lines.Goals as goal

pub returns : goal.returns
returns c =
    drop-reads c.deleted_count.result c.field-deleted.ensures
    (drop_lines-read c.drop_line.ensures c.drop_line-2.ensures c.drop_line-3.ensures c.drop_line-4.ensures
    c.drop_line-5.ensures c.drop_line-6.ensures c.drop_line-7.ensures)
    c.deleted_count.ensures c.expect.ensures
