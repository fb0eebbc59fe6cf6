use Rattle.std.proofs.Common.{◌++◌, [], ap}
use Rattle.wah_words.specs.Word.{groups}
use Rattle.wah_words.proofs.Paged.{paged_none}
use Rattle.wah_words.proofs.pages.PageWriter.with_capacity.Goals as goal

pub returns : goal.returns
returns c = ap (λ words. groups (words ++ [])) c.in_ok-with_capacity.ensures.items

pub invariant_of-result : goal.invariant_of-result
invariant_of-result c = paged_none _ _ c.in_ok-with_capacity.ensures.items c.in_ok-with_capacity-2.ensures.items
