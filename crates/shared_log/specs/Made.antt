-- A shared log as it is made.
use Rattle.std.specs.Prelude.{◌≡◌, ℕ, ◌+◌, ◌*◌, List, length}
use Rattle.atomic_table.specs.Seated.{TableId}
use Rattle.cubit_base.specs.declared.entry.Limits.{Limits}
use Rattle.log_core.specs.Terms.{CoreTerms, node_count, AreTerms}

-- the table has the words of these terms, and the numbers are theirs
pub record IsMade (terms : CoreTerms) (table : TableId) (shares : List ℕ) (base_rows : ℕ) (limits : Limits)
    : Type 0 where
  pub are : AreTerms terms
  pub words : table.words ≡ 5 * node_count terms + 1
  pub shares_are : shares ≡ terms.shares
  pub base_rows_are : base_rows ≡ length terms.base
  pub limits_are : limits ≡ terms.limits

-- of which log it is, and how many passes it gave
pub record OpeningValue : Type 0 where
  pub table : TableId
  pub given : ℕ
