-- What a line of `lineitem` says.
use Rattle.std.specs.Prelude.{ℕ, ◌&&◌, nat_le, List, [], ◌∷◌, length, Option, Some, None, Result, Ok, Err, ok_or, if◌then◌else◌}
use Rattle.cubit_base.specs.Tuple.{TupleValue}
use Rattle.cubit_base.specs.Key.{KeyValue}
use Rattle.tbl_text.specs.declared.line.LineFault.{LineFault}
use Rattle.tbl_text.specs.declared.line.LineFault.TheVariants as fault
use Rattle.tbl_text.specs.Field.{integer_value, money_value, quantity_value, date_value, flag_value, status_value, is_text}
use Rattle.tbl_text.specs.Lines.{fields_of}

-- the numbers of the faults of a line
abbrev pub fault_number : LineFault → ℕ
fault_number (fault.FieldCount count) = 1
fault_number fault.Order = 2
fault_number fault.Line = 3
fault_number fault.Quantity = 4
fault_number fault.Price = 5
fault_number fault.Discount = 6
fault_number fault.Tax = 7
fault_number fault.Flag = 8
fault_number fault.Status = 9
fault_number fault.Date = 10
fault_number fault.Text = 11

infixl 10 ◌>>=◌
abbrev pub ◌>>=◌ : {A B : Type 0} → Result A LineFault → (A → Result B LineFault) → Result B LineFault
(Ok x) >>= f = f x
(Err e) >>= f = Err e

-- the number, where there is one and it lies from low to high; else the fault
abbrev pub within : ℕ → ℕ → Option ℕ → LineFault → Result ℕ LineFault
within low high None f = Err f
within low high (Some n) f = if nat_le low n && nat_le n high then Ok n else Err f

-- nothing, where the field is text; else the fault
abbrev pub text : List ℕ → Result (Unit {0}) LineFault
text field = if is_text field then Ok tt else Err fault.Text

-- the key and the tuple that sixteen fields give, or the first fault: their number first, then from left to right
abbrev pub fields_value : List (List ℕ) → Result (KeyValue × TupleValue) LineFault
fields_value (orderkey ∷ partkey ∷ suppkey ∷ linenumber ∷ quantity ∷ extendedprice ∷ discount ∷ tax ∷ returnflag
    ∷ linestatus ∷ shipdate ∷ commitdate ∷ receiptdate ∷ shipinstruct ∷ shipmode ∷ comment ∷ []) = do
      order ← within 1 4_294_967_295 (integer_value orderkey) fault.Order
      _ ← text partkey
      _ ← text suppkey
      line ← within 1 7 (integer_value linenumber) fault.Line
      qty ← within 1 50 (quantity_value quantity) fault.Quantity
      price ← within 0 99_999_999 (money_value extendedprice) fault.Price
      disc ← within 0 10 (money_value discount) fault.Discount
      tax_ ← within 0 8 (money_value tax) fault.Tax
      flag ← ok_or (flag_value returnflag) fault.Flag
      status ← ok_or (status_value linestatus) fault.Status
      day ← ok_or (date_value shipdate) fault.Date
      _ ← text commitdate
      _ ← text receiptdate
      _ ← text shipinstruct
      _ ← text shipmode
      _ ← text comment
      Ok (
        record { order = order; line = line },
        record { price = price; day = day; qty = qty; disc = disc; tax = tax_; flag = flag; status = status },
      )
fields_value fields = Err (fault.FieldCount (length fields))

-- the key and the tuple of a line, or its first fault
abbrev pub line_value : List ℕ → Result (KeyValue × TupleValue) LineFault
line_value line = fields_value (fields_of line)
