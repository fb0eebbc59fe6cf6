-- The words of an entry tell the entry.
use Rattle.std.proofs.Common.{◌≡◌, ℕ, List, [], ◌∷◌, arith}
use Rattle.cubit_base.specs.declared.entry.Entry.{Entry}
use Rattle.cubit_base.specs.EntryWords.{FitsWords, entry_words}
use Rattle.log_core.specs.Chain.{payload, HasEntry}

abbrev pub TellsEntry : Type 0
TellsEntry = (a b : Entry) → FitsWords a → FitsWords b → entry_words a ≡ entry_words b → a ≡ b

-- four words that are those of a node
pub four-words : (ws : List ℕ) (n : ℕ) (e : Entry) → HasEntry ws n e →
    payload ws n 0 ∷ payload ws n 1 ∷ payload ws n 2 ∷ payload ws n 3 ∷ [] ≡ entry_words e
unfolding entry_words
four-words ws n e has = λ i.
    has.payload 0 (omega arith) i ∷ has.payload 1 (omega arith) i ∷ has.payload 2 (omega arith) i
    ∷ has.payload 3 (omega arith) i ∷ []
