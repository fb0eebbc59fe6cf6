-- The fields of a line, one after another.
use Rattle.std.specs.Prelude.{◌≡◌, ℕ, ◌<◌, List, [], ◌∷◌, length}
use Rattle.tbl_text.specs.declared.careful.Fields.{Fields}
use Rattle.tbl_text.specs.Lines.{pieces}

-- of bytes, where there are any, this is the first field, and this follows its bar
pub record IsCut (bytes field rest : List ℕ) : Type 0 where
  pub first : 0 < length bytes → pieces 124 bytes ≡ field ∷ pieces 124 rest

-- the sixteen fields of a line in order
abbrev pub listed : Fields → List (List ℕ)
listed f =
    f.orderkey.now ∷ f.partkey.now ∷ f.suppkey.now ∷ f.linenumber.now ∷ f.quantity.now ∷ f.extendedprice.now
    ∷ f.discount.now ∷ f.tax.now ∷ f.returnflag.now ∷ f.linestatus.now ∷ f.shipdate.now ∷ f.commitdate.now
    ∷ f.receiptdate.now ∷ f.shipinstruct.now ∷ f.shipmode.now ∷ f.comment.now ∷ []
