use Rattle.wah_words.proofs.Groups.{group-spelled}
use Rattle.wah_words.proofs.Spelled.{spells_itself}
use Rattle.wah_words.proofs.wah.Wah.words.Goals as goal

pub returns-clause-spelling : goal.returns-clause-spelling
returns-clause-spelling c = rw (c.deref.ensures.value, ← c.self.view_is) (spells_itself _ _ c.self.invariant)

pub returns-clause-each_group : goal.returns-clause-each_group
returns-clause-each_group c = λ k.
    group-spelled _ _ k (rw (c.deref.ensures.value, ← c.self.view_is) (spells_itself _ _ c.self.invariant))
