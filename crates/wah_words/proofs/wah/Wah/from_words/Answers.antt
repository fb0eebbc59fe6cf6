use Rattle.std.proofs.Common.{refl}
use Rattle.wah_words.specs.Canonical.{IsCanonical}
use Rattle.wah_words.proofs.Spelled.{spells_itself, length-spelled_rows}
use Rattle.wah_words.proofs.wah.Wah.from_words.Goals as goal

canonical : (c : goal.Else-not-is_canonical) → IsCanonical c.args.words.items c.args.rows
canonical c = rw c.deref.ensures.value at (c.if-not-is_canonical.ensures.0 refl)

pub returns-clause-list : goal.returns-clause-list
returns-clause-list c = spells_itself _ _ (canonical c)

pub returns-clause-rows : goal.returns-clause-rows
returns-clause-rows c = length-spelled_rows _ _ (canonical c)
