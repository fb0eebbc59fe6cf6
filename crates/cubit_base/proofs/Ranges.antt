-- Tuples within their ranges, in tables and after histories.
use Rattle.std.proofs.Common.{ℕ, zero, suc, List, [], ◌∷◌, All, Option, IfSome, arith}
use Rattle.std.proofs.lemmas.List.Elements.{All-nil, All-cons}
use Rattle.cubit_base.specs.Key.{KeyValue}
use Rattle.cubit_base.specs.Tuple.{TupleValue, IsTuple}
use Rattle.cubit_base.specs.Table.{Row, HasTuples}
use Rattle.cubit_base.specs.Delta.{with_row}
use Rattle.cubit_base.specs.History.{after, LeavesTuples}
use Rattle.cubit_base.specs.declared.delta.Delta.{Delta}

all-tail : {X : Type 0} (P : X → Type 0) (x : X) (xs : List X) → All P (x ∷ xs) → All P xs
all-tail P x xs all k d within = all (suc k) d (omega (arith, within))

abbrev Within : Row → Type 0
Within row = IfSome row.1 IsTuple

-- one row that gets another tuple
tuples-with : (table : List Row) (row : ℕ) (key : KeyValue) (tuple : Option TupleValue) → HasTuples table →
    IfSome tuple IsTuple → HasTuples (with_row table row key tuple)
tuples-with [] zero key tuple all is = All-cons Within (key, tuple) [] is (All-nil Within)
tuples-with [] (suc row) key tuple all is = all
tuples-with (r ∷ table) zero key tuple all is =
    All-cons Within (r.0, tuple) table is (all-tail Within r table all)
tuples-with (r ∷ table) (suc row) key tuple all is =
    All-cons Within r (with_row table row key tuple) (all 0 r (omega arith))
    (tuples-with table row key tuple (all-tail Within r table all) is)

-- all of them
pub tuples-after : (table : List Row) (h : List Delta) → HasTuples table → LeavesTuples h → HasTuples (after table h)
tuples-after table [] all leaves = all
tuples-after table (d ∷ h) all leaves =
    tuples-after (with_row table d.row d.key d.after) h
    (tuples-with table d.row d.key d.after all (leaves 0 d (omega arith)))
    (all-tail (λ (d : Delta). IfSome d.after IsTuple) d h leaves)
