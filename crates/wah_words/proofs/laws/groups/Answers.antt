use Rattle.wah_words.proofs.GroupLaws.{group_at-lt, group_at-past, list_from_groups, row-group_at}
use Rattle.wah_words.proofs.laws.groups.Goals as goal

pub returns : goal.returns
returns c = record {
  within = group_at-lt;
  row = row-group_at;
  past = group_at-past;
  same = list_from_groups;
}
