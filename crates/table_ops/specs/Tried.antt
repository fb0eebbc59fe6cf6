-- One try to make a change.
use Rattle.cubit_base.specs.Change.{Change}
use Rattle.commit_log.specs.Log.{Terms}
use Rattle.commit_log.specs.Handle.{Handle, IsLate}
use Rattle.commit_log.specs.declared.front.Front.{Front}
use Rattle.table_ops.specs.declared.settle.Tried.{Tried}
use Rattle.table_ops.specs.declared.settle.Tried.TheVariants.{Settled, Late}
use Rattle.table_ops.specs.Changed.{IsChanged}

-- the change is settled, or another delta stands behind the front
abbrev pub IsTried : Terms → Handle → Front → Change → Handle → Tried → Type 0
IsTried terms handle at change later (Settled result) = IsChanged terms handle change later result
IsTried terms handle at change later (Late front) = IsLate terms handle at later front
