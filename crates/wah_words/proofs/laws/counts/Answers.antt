use Rattle.wah_words.proofs.GroupLaws.{true_count-groups, true_count-pages}
use Rattle.wah_words.proofs.laws.counts.Goals as goal

pub returns : goal.returns
returns c = record { groups = true_count-groups; pages = true_count-pages }
