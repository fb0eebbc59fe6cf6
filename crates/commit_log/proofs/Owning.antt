-- The places of the one author's deltas.
use Rattle.std.proofs.Common.{◌≡◌, ℕ, ◌+◌, ◌==◌, List, [], ◌∷◌, length, map, filter, refl, ap}
use Rattle.std.specs.List.{enumerate_from, range_with_len}
use Rattle.commit_log.specs.declared.stored.StoredDelta.{StoredDelta}
use Rattle.commit_log.specs.Serial.{deltas_of}

-- each place is one of the author's
pub all-places : (n : ℕ) (entries : List StoredDelta) →
    map (λ p. p.0) (filter (λ p. p.1.author == 0) (enumerate_from n (deltas_of entries)))
    ≡ range_with_len n (length entries)
all-places n [] = refl
all-places n (e ∷ entries) = ap (λ rest. n ∷ rest) (all-places (n + 1) entries)
