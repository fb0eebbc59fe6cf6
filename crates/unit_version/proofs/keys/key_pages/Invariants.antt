use Rattle.std.proofs.Common.{◌≡◌, ℕ, ◌+◌, ◌<◌, length, map}
use Rattle.std.specs.Prelude.{slice_index_or}
use Rattle.std.specs.declared.alloc.Global.{Global}
use Rattle.std.specs.declared.vec.Vec.{Vec}
use Rattle.unit_version.specs.declared.keys.entry.Entry.{Entry}
use Rattle.unit_version.specs.KeyedRow.{keyed_from}
use Rattle.unit_version.specs.Entry.{keyed}
use Rattle.unit_version.specs.Content.{AreContents}
use Rattle.unit_version.specs.declared.unit.Unit.TheVariants as unit
use Rattle.unit_version.proofs.keys.key_pages.Given as goal

abbrev pub invariant-loop-rest : goal.invariant-loop-rest
invariant-loop-rest l = record {
  left : l.rest + length l.lists.items ≡ 64;
  lists : (k : ℕ) (d : Vec Entry Global) → k < length l.lists.items
      → map (keyed (l.rest + k)) (slice_index_or l.lists.items k d).items ≡ keyed_from (l.rest + k) 0 l.table;
  made : AreContents unit.Keys l.table l.rest l.pages.items;
}
