use Rattle.wah_words.proofs.GroupLaws.{group_at-and, group_at-or, group_at-xor}
use Rattle.wah_words.proofs.laws.operations.Goals as goal

pub returns : goal.returns
returns c = record { and = group_at-and; or = group_at-or; xor = group_at-xor }
