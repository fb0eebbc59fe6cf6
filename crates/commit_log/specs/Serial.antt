-- A log of one caller.
use Rattle.std.specs.Prelude.{◌≡◌, ℕ, ◌+◌, ◌≤◌, List, length, map, take, slice_get, Some, None, Bool, true, false, Result, Ok, Err}
use Rattle.cubit_base.specs.Table.{Row}
use Rattle.cubit_base.specs.History.{rows_after}
use Rattle.cubit_base.specs.declared.delta.Delta.{Delta}
use Rattle.cubit_base.specs.declared.entry.Limits.{Limits}
use Rattle.commit_log.specs.Log.{Terms, IsLog}
use Rattle.commit_log.specs.Handle.{Handle}
use Rattle.commit_log.specs.declared.front.Front.{Front}
use Rattle.commit_log.specs.declared.front.AppendStop.{AppendStop}
use Rattle.commit_log.specs.declared.front.AppendStop.TheVariants.{Full, Late}
use Rattle.commit_log.specs.declared.stored.StoredDelta.{StoredDelta}
use Rattle.commit_log.specs.StoredDelta.{delta_of}

-- its deltas, how many more there may be, and how many entries its walks gave
pub record SerialValue : Type 0 where
  pub seen : List Delta
  pub spare : ℕ
  pub walked : ℕ

-- the node of a prefix is its length
abbrev pub serial_terms : List Row → Limits → Terms
serial_terms base limits = record { base = base; limits = limits; node = λ log. length log }

abbrev pub serial_handle : SerialValue → Handle
serial_handle log = record {
  seen = log.seen;
  author = 0;
  spare = log.spare;
  walked = Some log.walked;
  looks = None;
}

abbrev pub deltas_of : List StoredDelta → List Delta
deltas_of entries = map delta_of entries

abbrev pub orders_of : List StoredDelta → List ℕ
orders_of entries = map (λ e. e.key.order) entries

-- the entries are those of a log, with their orders, the rows before it and after it, and the limits
pub record IsSerial (terms : Terms) (entries : List StoredDelta) (orders : List ℕ) (first now : ℕ) (limits : Limits)
    : Type 0 where
  pub log : IsLog terms (deltas_of entries)
  pub rows : (place : ℕ) (entry : StoredDelta) → slice_get entries place ≡ Some entry →
      entry.rows ≡ rows_after terms.base (take (place + 1) (deltas_of entries))
  pub orders_are : orders ≡ orders_of entries
  pub first_is : first ≡ length terms.base
  pub now_is : now ≡ rows_after terms.base (deltas_of entries)
  pub limits_are : limits ≡ terms.limits

-- so many more items fit
pub record HasRoom (items capacity spare : ℕ) : Type 0 where
  pub room : items + spare ≤ capacity

-- the answer is that another delta stands behind the front
abbrev pub is_late : Result Front AppendStop → Bool
is_late (Ok front) = false
is_late (Err Full) = false
is_late (Err (Late front)) = true
