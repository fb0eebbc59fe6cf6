use Rattle.std.proofs.Common.{sym, arith}
use Rattle.tbl_text.proofs.Bars.{fields_of-read, nothing, ◌⨾◌}
use Rattle.tbl_text.proofs.careful.split.Goals as goal

pub returns : goal.returns
returns c =
    let reads =
    c.next_field.ensures ⨾ c.next_field-2.ensures ⨾ c.next_field-3.ensures ⨾ c.next_field-4.ensures
    ⨾ c.next_field-5.ensures ⨾ c.next_field-6.ensures ⨾ c.next_field-7.ensures ⨾ c.next_field-8.ensures
    ⨾ c.next_field-9.ensures ⨾ c.next_field-10.ensures ⨾ c.next_field-11.ensures ⨾ c.next_field-12.ensures
    ⨾ c.next_field-13.ensures ⨾ c.next_field-14.ensures ⨾ c.next_field-15.ensures ⨾ c.next_field-16.ensures
    ⨾ nothing in
    sym (fields_of-read c.args.line.now _ reads (omega arith) c.requires)
