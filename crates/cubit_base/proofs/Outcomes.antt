-- What comes of changes.
use Rattle.std.proofs.Common.{◌≡◌, ◌≢◌, ◌⊎◌, ℕ, ◌≤◌, ◌==◌, Bool, true, false, cond, List, length, Option, Some, None, refl, arith, inl, inr}
use Rattle.std.proofs.lemmas.Bool.{eqb-false}
use Rattle.cubit_base.specs.Key.{KeyValue}
use Rattle.cubit_base.specs.Tuple.{TupleValue}
use Rattle.cubit_base.specs.Table.{Row}
use Rattle.cubit_base.specs.LiveRow.{live_row}
use Rattle.cubit_base.specs.Delta.{IsUpdate, IsDelete, IsLawful}
use Rattle.cubit_base.specs.Change.{Change, Insert, Update, Delete, TableFull, LogFull, Placed, outcome, insert_outcome, live_outcome, key_of}
use Rattle.cubit_base.specs.declared.delta.Delta.{Delta}
use Rattle.cubit_base.proofs.LiveRows.{Finds, finds, free-nowhere}

-- a placed delta is that which is named
placed-is : (d e : Delta) → Placed d ≡ Placed e → d ≡ e
placed-is d e is = cc

-- what placed tells of a test of the log's room, and of the table's
log-room : (full : Bool) (d e : Delta) → cond full LogFull (Placed d) ≡ Placed e → (full ≡ false) × (d ≡ e)
log-room true d e is = absurd cc
log-room false d e is = (refl, placed-is d e is)

table-room : (full log_full : Bool) (d e : Delta) → cond full TableFull (cond log_full LogFull (Placed d)) ≡ Placed e
    → (full ≡ false) × (log_full ≡ false) × (d ≡ e)
table-room true log_full d e is = absurd cc
table-room false log_full d e is = let rest = log-room log_full d e is in (refl, rest.0, rest.1)

-- the delta of an author's change of a key, after n deltas
pub record IsPlaced (row_limit log_limit : ℕ) (table : List Row) (n author : ℕ) (key : KeyValue) (d : Delta)
    : Type 0 where
  pub lawful : length table ≤ row_limit → IsLawful row_limit table d
  pub room : n ≢ log_limit
  pub by : d.author ≡ author
  pub of : d.key ≡ key

module _ (row_limit log_limit : ℕ) (table : List Row) (n author : ℕ) where
  insert-placed : (key : KeyValue) (tuple : TupleValue) (found : Option (ℕ × TupleValue)) (d : Delta)
      → Finds table key found
      → insert_outcome row_limit log_limit table n
      (record { author = author; row = length table; key = key; before = None; after = Some tuple }) found ≡ Placed d
      → IsPlaced row_limit log_limit table n author key d
  insert-placed key tuple (Some r) d finds is = absurd cc
  insert-placed key tuple None d nowhere is =
      let e : Delta = record { author = author; row = length table; key = key; before = None; after = Some tuple } in
      let parts = table-room (length table == row_limit) (n == log_limit) e d is in
      let full = eqb-false (length table) row_limit parts.0 in
      let placed : IsPlaced row_limit log_limit table n author key e = record {
        lawful = λ within. inl (record {
          before = refl;
          after = refl;
          row = refl;
          room = omega (arith, full);
          free = free-nowhere table key nowhere;
        });
        room = eqb-false n log_limit parts.1;
        by = refl;
        of = refl;
      } in
      rw parts.2 at placed

  live-placed : (key : KeyValue) (after : Option TupleValue) (found : Option (ℕ × TupleValue)) (d : Delta)
      → Finds table key found → live_outcome log_limit n author key after found ≡ Placed d
      → IsPlaced row_limit log_limit table n author key d
  live-placed key after None d finds is = absurd cc
  live-placed key after (Some r) d lives is =
      let e : Delta = record { author = author; row = r.0; key = key; before = Some r.1; after = after } in
      let parts = log-room (n == log_limit) e d is in
      let placed : IsPlaced row_limit log_limit table n author key e = record {
        lawful = λ within. inr (kind after);
        room = eqb-false n log_limit parts.0;
        by = refl;
        of = refl;
      } in
      rw parts.1 at placed
    where
      kind : (after : Option TupleValue)
          → (let e : Delta = record { author = author; row = r.0; key = key; before = Some r.1; after = after } in
          IsUpdate table e ⊎ IsDelete table e)
      kind None = inr (record { before = refl; after = refl; row = lives })
      kind (Some x) = inl (record { before = refl; after = refl; row = lives })

  -- a change that comes to a delta
  pub outcome-placed : (change : Change) (d : Delta)
      → outcome row_limit log_limit table n author change ≡ Placed d
      → IsPlaced row_limit log_limit table n author (key_of change) d
  outcome-placed (Insert key tuple) d is = insert-placed key tuple (live_row table key) d (finds table key) is
  outcome-placed (Update key tuple) d is = live-placed key (Some tuple) (live_row table key) d (finds table key) is
  outcome-placed (Delete key) d is = live-placed key None (live_row table key) d (finds table key) is
