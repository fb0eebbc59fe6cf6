-- Stored deltas.
use Rattle.std.specs.Prelude.{ℕ}
use Rattle.cubit_base.specs.declared.delta.Delta.{Delta}
use Rattle.commit_log.specs.declared.stored.StoredDelta.{StoredDelta}

-- the delta, whose author is the one of the log, with the number 0
abbrev pub delta_of : StoredDelta → Delta
delta_of s = record { author = 0; row = s.row; key = s.key; before = s.before; after = s.after }

-- a delta as it is stored, with the rows that there ever were after it
abbrev pub stored_of : Delta → ℕ → StoredDelta
stored_of d rows = record { before = d.before; after = d.after; key = d.key; row = d.row; rows = rows }
