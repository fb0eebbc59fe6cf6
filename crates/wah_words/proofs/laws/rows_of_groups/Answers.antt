use Rattle.wah_words.proofs.Groups.{group_from_rows}
use Rattle.wah_words.proofs.GroupLaws.{group_at-front, row-unpacked}
use Rattle.std.proofs.Common.{sym}
use Rattle.wah_words.proofs.laws.rows_of_groups.Goals as goal

pub returns : goal.returns
returns c = record {
  row = row-unpacked;
  all = λ groups k each. sym (group_from_rows groups k each);
  front = group_at-front;
}
