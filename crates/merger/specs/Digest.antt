-- What lies between two prefixes of a log, digested.
use Rattle.std.specs.Prelude.{◌≡◌, ◌≤◌, ℕ, List, length, IfSome, Option}
use Rattle.cubit_base.specs.declared.delta.Delta.{Delta}
use Rattle.commit_log.specs.Log.{between}

-- the lengths of two prefixes, and the deltas between them
pub record DigestValue : Type 0 where
  pub from : ℕ
  pub to : ℕ
  pub changes : List Delta

-- it is one of this log
pub record IsDigest (log : List Delta) (digest : DigestValue) : Type 0 where
  pub order : digest.from ≤ digest.to
  pub within : digest.to ≤ length log
  pub changes_are : digest.changes ≡ between digest.from digest.to log

-- the two that are kept, if there are any
pub record DigestsValue : Type 0 where
  pub last : Option DigestValue
  pub other : Option DigestValue

-- they are of this log
pub record AreDigests (log : List Delta) (digests : DigestsValue) : Type 0 where
  pub last : IfSome digests.last (IsDigest log)
  pub other : IfSome digests.other (IsDigest log)
