-- Words told by their tuples.
use Rattle.std.proofs.Common.{◌≡◌, sym, ap, inl, inr, arith}
use Rattle.std.proofs.lemmas.Bool.{cases_eq}
use Rattle.std.proofs.lemmas.Bool.Decides.{nat_tests}
use Rattle.cubit_base.specs.Word.{tuple_word, word_of}
use Rattle.unit_version.specs.Packed.{unpacked, held, IsPacked, IsHeld}
use Rattle.unit_version.specs.declared.packed.PackedTuple.TheInside as packed
use Rattle.unit_version.specs.declared.packed.Slot.TheInside as slot

-- the word of the tuple that a word is of
pub packed_again : (p : packed.Inside) → IsPacked p.word → record { word = tuple_word (unpacked p.word) } ≡ p
packed_again p is = ap (λ word. record { word = word }) (sym is.is)

-- and that of the tuple or none
pub held_again : (s : slot.Inside) → IsHeld s.word → record { word = word_of (held s.word) } ≡ s
held_again s is = elim (cases_eq s.word 0) [
  | inl none ↦ grind (arith, nat_tests)
  | inr some ↦ let packed = is some in grind (arith, nat_tests, packed.is)
]
