use Rattle.std.proofs.Common.{◌∙◌, sym, ap}
use Rattle.wah_words.proofs.Unique.{words_from_list}
use Rattle.wah_words.specs.Canonical.{spelled_rows}
use Rattle.wah_words.proofs.wah.one_spelling.Goals as goal

pub returns-clause-list : goal.returns-clause-list
returns-clause-list c words a b long is_a is_b = sym is_a.rows ∙ ap (spelled_rows words) long ∙ is_b.rows

pub returns-clause-words : goal.returns-clause-words
returns-clause-words c a b list = words_from_list a b list
