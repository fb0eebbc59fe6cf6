-- What a key page keeps.
use Rattle.std.specs.Prelude.{ℕ, ◌+◌, ◌*◌, ◌/◌, ◌%◌, ◌<◌, Bool, nat_le, List, map}
use Rattle.std.specs.List.Sorted.{IsStrictlyIncreasing}
use Rattle.cubit_base.specs.Key.{KeyValue}
use Rattle.unit_version.specs.declared.keys.entry.Entry.{Entry}
use Rattle.unit_version.specs.KeyedRow.{KeyedRow}
use Rattle.unit_version.specs.Search.{AreTops}

-- a key within its page, and the key of a page that has this code
abbrev pub code_of : KeyValue → ℕ
code_of key = key.order / 64 * 8 + key.line

abbrev pub key_of_code : ℕ → ℕ → KeyValue
key_of_code rest code = record { order = code / 8 * 64 + rest; line = code % 8 }

-- the live row of an entry
abbrev pub keyed : ℕ → Entry → KeyedRow
keyed rest e = record { key = key_of_code rest e.code; row = e.row; tuple = e.tuple }

-- the entry's code is not above this one
abbrev pub is_up_to : ℕ → Entry → Bool
is_up_to code e = nat_le e.code code

abbrev pub codes : List Entry → List ℕ
codes entries = map (λ e. e.code) entries

-- entries with rising codes, and the codes of each 16th
pub record AreEntries (rest : ℕ) (entries : List Entry) (tops : List ℕ) : Type 0 where
  pub low : rest < 64
  pub rising : IsStrictlyIncreasing (codes entries)
  pub tops_are : AreTops (codes entries) tops
