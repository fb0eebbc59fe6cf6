-- The primary key of a row.
use Rattle.std.specs.Prelude.{ℕ, ◌≤◌, ◌==◌, Bool, ◌&&◌}
use Rattle.std.specs.declared.cmp.Ordering.{Ordering}
use Rattle.std.specs.Ordering.{nat_cmp, ordering_then, is_lt}

-- the order, and the line within it
pub record KeyValue : Type 0 where
  pub order : ℕ
  pub line : ℕ

-- an order from 1 on, and a line from 1 to 7
pub record IsKey (k : KeyValue) : Type 0 where
  pub order : 1 ≤ k.order
  pub line_low : 1 ≤ k.line
  pub line_high : k.line ≤ 7

-- the same order and line
abbrev pub same_key : KeyValue → KeyValue → Bool
same_key a b = (a.order == b.order) && (a.line == b.line)

-- keys stand by their order, and those of one order by their line
abbrev pub key_cmp : KeyValue → KeyValue → Ordering
key_cmp a b = ordering_then (nat_cmp a.order b.order) (nat_cmp a.line b.line)

-- the first key stands before the second
abbrev pub key_is_less : KeyValue → KeyValue → Bool
key_is_less a b = is_lt (key_cmp a b)
