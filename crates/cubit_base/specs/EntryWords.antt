-- The four words of 64 bits that an entry is kept in.
use Rattle.std.specs.Prelude.{ℕ, ◌+◌, ◌*◌, ◌^◌, ◌≤◌, ◌<◌, true, ◌≡◌, ◌||◌, is_some, List, [], ◌∷◌, IfSome}
use Rattle.cubit_base.specs.Key.{IsKey}
use Rattle.cubit_base.specs.Tuple.{IsTuple}
use Rattle.cubit_base.specs.Word.{word_of}
use Rattle.cubit_base.specs.declared.entry.Entry.{Entry}

-- the key's order and the row; the sequence, the rows ever, the key's line and the author; the tuple before, and the
-- tuple after
unfoldable pub entry_words : Entry → List ℕ
entry_words e =
    (e.delta.key.order + e.delta.row * 2 ^ 32)
    ∷ (e.seq + e.rows * 2 ^ 23 + e.delta.key.line * 2 ^ 48 + e.delta.author * 2 ^ 51)
    ∷ word_of e.delta.before ∷ word_of e.delta.after ∷ []

-- the entry is within the ranges that its words have room for; it has one tuple at least, and its row is one of those
-- that there ever were
pub record FitsWords (e : Entry) : Type 0 where
  pub seq_low : 1 ≤ e.seq
  pub seq_high : e.seq ≤ 4_194_304
  pub rows : e.rows ≤ 16_777_216
  pub row : e.delta.row < e.rows
  pub key : IsKey e.delta.key
  pub order : e.delta.key.order < 2 ^ 32
  pub author : e.delta.author ≤ 63
  pub before : IfSome e.delta.before IsTuple
  pub after : IfSome e.delta.after IsTuple
  pub told : (is_some e.delta.before || is_some e.delta.after) ≡ true
