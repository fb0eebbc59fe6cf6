-- The live row of a key at one front.
use Rattle.std.specs.Prelude.{◌≡◌, ℕ, ◌+◌, ◌-◌, ◌*◌, ◌%◌, nat_lt, if◌then◌else◌, List, length, Option, Some, None}
use Rattle.cubit_base.specs.Key.{KeyValue}
use Rattle.cubit_base.specs.Tuple.{TupleValue}
use Rattle.cubit_base.specs.LiveRow.{live_row}
use Rattle.cubit_base.specs.History.{after}
use Rattle.cubit_base.specs.declared.delta.Delta.{Delta}
use Rattle.commit_log.specs.Log.{Terms, IsWhole}
use Rattle.commit_log.specs.Handle.{raised}
use Rattle.commit_log.specs.declared.front.Front.{Front}
use Rattle.unit_version.specs.declared.unit.Unit.{Unit as IndexUnit}
use Rattle.unit_version.specs.declared.unit.Unit.TheVariants.{Keys}
use Rattle.version_store.specs.Store.{Store}
use Rattle.version_store.specs.Version.{Version}

-- the key page of a key
abbrev pub page_of : KeyValue → IndexUnit
page_of key = Keys (key.order % 64)

-- the front is that of all that was seen, and there the key has this live row, or none
pub record IsFound (terms : Terms) (seen : List Delta) (key : KeyValue) (found : Front × Option (ℕ × TupleValue))
    : Type 0 where
  pub whole : IsWhole terms seen found.0
  pub live : live_row (after terms.base seen) key ≡ found.1

-- the length of the unit's version where versions are told, and else 0
abbrev pub told_length : Option (IndexUnit → Version) → IndexUnit → ℕ
told_length None unit = 0
told_length (Some told) unit = (told unit).front.len

-- the same where no turn was lost either
abbrev pub known_length : Store → Store → IndexUnit → ℕ
known_length store later unit =
    if nat_lt later.losses (raised store.losses) then told_length store.told unit else 0

-- the most steps of a look-up: a hold's, a front's, and those over what lies between the key page's version, where its
-- length is known, and the front
abbrev pub lookup_steps : ℕ → ℕ → ℕ → ℕ
lookup_steps tries known len = 2 * tries + 14 + 5 * (len - known)
