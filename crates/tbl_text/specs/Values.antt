-- The values of a tuple in a command, with one space between each two.
use Rattle.std.specs.Prelude.{ℕ, ◌==◌, Bool, List, [], ◌∷◌, length, Result, Ok, Err, ok_or}
use Rattle.std.specs.List.{slice_split}
use Rattle.cubit_base.specs.Tuple.{TupleValue}
use Rattle.tbl_text.specs.declared.line.LineFault.{LineFault}
use Rattle.tbl_text.specs.declared.line.LineFault.TheVariants as fault
use Rattle.tbl_text.specs.declared.values.Values.{Values}
use Rattle.tbl_text.specs.Field.{money_value, quantity_value, date_value, flag_value, status_value}
use Rattle.tbl_text.specs.Line.{◌>>=◌, within}

abbrev pub is_space : ℕ → Bool
is_space b = b == 32

-- what stands between spaces: one word more than there are spaces, and empty ones count
abbrev pub words_of : List ℕ → List (List ℕ)
words_of bytes = slice_split is_space bytes

-- the tuple that seven values give, or the first fault from left to right
abbrev pub tuple_value : List (List ℕ) → Result TupleValue LineFault
tuple_value (quantity ∷ extendedprice ∷ discount ∷ tax ∷ returnflag ∷ linestatus ∷ shipdate ∷ []) = do
  qty ← within 1 50 (quantity_value quantity) fault.Quantity
  price ← within 0 99_999_999 (money_value extendedprice) fault.Price
  disc ← within 0 10 (money_value discount) fault.Discount
  tax_ ← within 0 8 (money_value tax) fault.Tax
  flag ← ok_or (flag_value returnflag) fault.Flag
  status ← ok_or (status_value linestatus) fault.Status
  day ← ok_or (date_value shipdate) fault.Date
  Ok (record { price = price; day = day; qty = qty; disc = disc; tax = tax_; flag = flag; status = status })
tuple_value values = Err (fault.FieldCount (length values))

-- the seven values in order
abbrev pub listed_values : Values → List (List ℕ)
listed_values v =
    v.quantity.now ∷ v.extendedprice.now ∷ v.discount.now ∷ v.tax.now ∷ v.returnflag.now ∷ v.linestatus.now
    ∷ v.shipdate.now ∷ []
