-- Stores in memory while the log grows.
use Rattle.std.proofs.Common.{List}
use Rattle.cubit_base.specs.declared.delta.Delta.{Delta}
use Rattle.commit_log.specs.Log.{Terms}
use Rattle.commit_log.specs.Handle.{Begins}
use Rattle.unit_version.specs.BaseValue.{BaseValue}
use Rattle.version_store.specs.Memory.{MemoryValue, memory_store, AreVersions, versions-last}
use Rattle.version_store.specs.Store.{IsStanding}

pub standing-last : (terms : Terms) (memory : MemoryValue) (base : BaseValue) (log longer : List Delta) →
    IsStanding terms (memory_store memory) base (AreVersions terms memory log) → Begins log longer →
    IsStanding terms (memory_store memory) base (AreVersions terms memory longer)
standing-last terms memory base log longer was begins = record {
  none_lent = was.none_lent;
  over = versions-last terms memory log longer was.over begins;
  pages_are = was.pages_are;
  table_is = was.table_is;
  row_room = was.row_room;
  tries = was.tries;
}
