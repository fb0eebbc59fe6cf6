-- What goes into a checksum.
use Rattle.std.specs.Prelude.{ℕ, ◌≡◌, ◌+◌, ◌%◌, ◌^◌, List, [], ◌∷◌, length}
use Rattle.wah_words.specs.Canonical.{Spells}
use Rattle.wah_words.specs.Place.{page_count}
use Rattle.kernel_bench.specs.Pages.{IsXor}
use Rattle.kernel_bench.specs.Mix.{mixed}
use Rattle.kernel_bench.specs.declared.checksum.Checksum.{Checksum}
use Rattle.kernel_bench.specs.declared.kernel.Outcome.{Outcome}
use Rattle.kernel_bench.specs.declared.kernel.Outcome.TheVariants.{List as AList, Pages, Number}

-- these words went into the checksum
pub record AddsWords (old new : Checksum) (words : List ℕ) : Type 0 where
  pub count : new.words ≡ (old.words + length words) % 2 ^ 64
  pub mix : new.mix ≡ mixed old.mix words

-- the outcome went into the checksum: the words that spell its list, and behind them the
-- exclusive or of its pages where it has fences, or its number
abbrev pub Adds : Checksum → Checksum → Outcome → Type 0
Adds old new (AList list) = (words : List ℕ) × Spells words list × AddsWords old new words
Adds old new (Pages list) =
    (words : List ℕ) × (xor : ℕ) × (mid : Checksum) × Spells words list × AddsWords old mid words
    × IsXor list (page_count (length list)) xor × AddsWords mid new (xor ∷ [])
Adds old new (Number number) = AddsWords old new (number ∷ [])
