-- A line whose fields were all taken has their value.
use Rattle.std.proofs.Common.{◌≡◌, ℕ, ◌≤◌, true, List, [], ◌∷◌, ◌++◌, length, Option, Some, Ok, refl, sym, ap, ◌∙◌, append_assoc, arith}
use Rattle.std.specs.List.{list_all}
use Rattle.std.specs.Prelude.{ok_or}
use Rattle.std.proofs.lemmas.Bool.{and_parts, le-leb}
use Rattle.std.proofs.lemmas.List.Elements.{All-cons, All-append}
use Rattle.std.proofs.lemmas.List.Sums.{AllPass-from_list_all, list_all-from_AllPass}
use Rattle.cubit_base.specs.Key.{KeyValue, IsKey}
use Rattle.cubit_base.specs.Tuple.{TupleValue, IsTuple}
use Rattle.tbl_text.specs.declared.line.LineFault.{LineFault}
use Rattle.tbl_text.specs.declared.line.LineFault.TheVariants as fault
use Rattle.tbl_text.specs.LineCursor.{Takes, EndsLine}
use Rattle.tbl_text.specs.Field.{integer_value, money_value, quantity_value, date_value, flag_value, status_value, is_text_byte, is_text}
use Rattle.tbl_text.specs.Line.{within, text, fields_value}
use Rattle.tbl_text.specs.Lines.{pieces, fields_of}
use Rattle.tbl_text.specs.FirstRow.{Begins}
use Rattle.tbl_text.proofs.Bars.{pieces-separator}
use Rattle.tbl_text.proofs.FirstLine.{lines_of-text, end_shorter}
use Rattle.tbl_text.proofs.TakenFields.{IsClean, clean_text, clean_free}

-- a number within the bounds
within-some : (low high n : ℕ) (number : Option ℕ) (f : LineFault) → number ≡ Some n → low ≤ n → n ≤ high
    → within low high number f ≡ Ok n
within-some low high n number f is above below = rw (is, le-leb low n above, le-leb n high below) refl

-- text
text-ok : (field : List ℕ) → is_text field ≡ true → text field ≡ Ok tt
text-ok field is = rw is refl

-- a value that is there
ok_or-some : {A : Type 0} (value : Option A) (x : A) (f : LineFault) → value ≡ Some x → ok_or value f ≡ Ok x
ok_or-some value x f is = rw is refl

-- the fields of the first line were taken one after another, and say this key and this tuple
pub record TakesLine (bytes rest : List ℕ) (key : KeyValue) (t : TupleValue) : Type 0 where
  pub after_order : List ℕ
  pub after_part : List ℕ
  pub after_supp : List ℕ
  pub after_line : List ℕ
  pub after_quantity : List ℕ
  pub after_price : List ℕ
  pub after_discount : List ℕ
  pub after_tax : List ℕ
  pub after_flag : List ℕ
  pub after_status : List ℕ
  pub after_date : List ℕ
  pub order : Takes integer_value bytes after_order (Some key.order)
  pub part : Takes is_text after_order after_part true
  pub supp : Takes is_text after_part after_supp true
  pub line : Takes integer_value after_supp after_line (Some key.line)
  pub quantity : Takes quantity_value after_line after_quantity (Some t.qty)
  pub price : Takes money_value after_quantity after_price (Some t.price)
  pub discount : Takes money_value after_price after_discount (Some t.disc)
  pub tax : Takes money_value after_discount after_tax (Some t.tax)
  pub flag : Takes flag_value after_tax after_flag (Some t.flag)
  pub status : Takes status_value after_flag after_status (Some t.status)
  pub date : Takes date_value after_status after_date (Some t.day)
  pub tail : EndsLine after_date rest

-- a key and a tuple that a line may have
pub record AreInRange (key : KeyValue) (t : TupleValue) : Type 0 where
  pub key_in : IsKey key
  pub order_in : key.order ≤ 4_294_967_295
  pub tuple_in : IsTuple t

-- the eleven fields up to the date
abbrev front_fields : {bytes rest : List ℕ} {key : KeyValue} {t : TupleValue} → TakesLine bytes rest key t
    → List (List ℕ) → List (List ℕ)
front_fields taken others =
    taken.order.field ∷ taken.part.field ∷ taken.supp.field ∷ taken.line.field ∷ taken.quantity.field
    ∷ taken.price.field ∷ taken.discount.field ∷ taken.tax.field ∷ taken.flag.field ∷ taken.status.field
    ∷ taken.date.field ∷ others

-- with five texts behind them they have the value
fields_value-taken : (bytes rest : List ℕ) (key : KeyValue) (t : TupleValue) (taken : TakesLine bytes rest key t)
    (texts : List (List ℕ)) → AreInRange key t → length texts ≡ 5 → list_all is_text texts ≡ true
    → fields_value (front_fields taken texts) ≡ Ok (key, t)
fields_value-taken bytes rest key t taken (f12 ∷ f13 ∷ f14 ∷ f15 ∷ f16 ∷ []) fits count texts =
    let t12 = and_parts (is_text f12) _ texts in
    let t13 = and_parts (is_text f13) _ t12.1 in
    let t14 = and_parts (is_text f14) _ t13.1 in
    let t15 = and_parts (is_text f15) _ t14.1 in
    let t16 = and_parts (is_text f16) true t15.1 in
    let is_key = fits.key_in in
    let is_tuple = fits.tuple_in in
    rw (
      within-some 1 4_294_967_295 key.order _ fault.Order taken.order.reads is_key.order fits.order_in,
      text-ok taken.part.field taken.part.reads,
      text-ok taken.supp.field taken.supp.reads,
      within-some 1 7 key.line _ fault.Line taken.line.reads is_key.line_low is_key.line_high,
      within-some 1 50 t.qty _ fault.Quantity taken.quantity.reads is_tuple.qty_low is_tuple.qty_high,
      within-some 0 99_999_999 t.price _ fault.Price taken.price.reads (omega arith) is_tuple.price,
      within-some 0 10 t.disc _ fault.Discount taken.discount.reads (omega arith) is_tuple.disc,
      within-some 0 8 t.tax _ fault.Tax taken.tax.reads (omega arith) is_tuple.tax,
      ok_or-some _ t.flag fault.Flag taken.flag.reads,
      ok_or-some _ t.status fault.Status taken.status.reads,
      ok_or-some _ t.day fault.Date taken.date.reads,
      text-ok f12 t12.0,
      text-ok f13 t13.0,
      text-ok f14 t14.0,
      text-ok f15 t15.0,
      text-ok f16 t16.0,
    )
    refl
fields_value-taken bytes rest key t taken others fits count texts = absurd (omega arith)

-- a line with a piece has its pieces for fields
fields_of-some : (line field : List ℕ) (others : List (List ℕ)) → pieces 124 line ≡ field ∷ others
    → fields_of line ≡ field ∷ others
fields_of-some [] field others is = absurd cc
fields_of-some (b ∷ line) field others is = is

-- old begins with the text of these fields, and back is what follows them
record Front (back old : List ℕ) (fields : List (List ℕ)) : Type 0 where
  line : List ℕ
  cut : old ≡ line ++ back
  text : is_text line ≡ true
  fields_are : pieces 124 line ≡ fields

-- a field and a bar before text are text
text-more : (field line : List ℕ) → IsClean field → is_text line ≡ true → is_text (field ++ 124 ∷ line) ≡ true
text-more field line clean text =
    let is : ℕ → Type 0 = λ b. is_text_byte b ≡ true in
    list_all-from_AllPass is_text_byte (field ++ 124 ∷ line)
    (All-append is field (124 ∷ line) (clean_text field clean)
    (All-cons is 124 line refl (AllPass-from_list_all is_text_byte line text)))

-- one field more in front
front_more : {A : Type 0} {read : List ℕ → A} {back old new : List ℕ} {fields : List (List ℕ)} {value : A}
    (taken : Takes read old new value) → Front back new fields → Front back old (taken.field ∷ fields)
front_more {back = back} taken front =
    let field = taken.field in
    record {
      line = field ++ 124 ∷ front.line;
      cut = taken.cut
          ∙ ap (λ rest. field ++ 124 ∷ rest) front.cut
          ∙ sym (append_assoc field (124 ∷ front.line) back);
      text = text-more field front.line taken.clean front.text;
      fields_are = pieces-separator 124 field front.line (clean_free field taken.clean)
          ∙ ap (λ others. field ∷ others) front.fields_are;
    }

-- the fields that were taken are the front of the bytes, up to the line's end
front_taken : {bytes rest : List ℕ} {key : KeyValue} {t : TupleValue} (taken : TakesLine bytes rest key t)
    → Front taken.tail.back bytes (front_fields taken (pieces 124 taken.tail.tail))
front_taken taken =
    let end = taken.tail in
    let tail : Front end.back taken.after_date (pieces 124 end.tail) =
    record { line = end.tail; cut = end.cut; text = end.text; fields_are = refl } in
    let letters = front_more taken.flag (front_more taken.status (front_more taken.date tail)) in
    let money = front_more taken.price (front_more taken.discount (front_more taken.tax letters)) in
    let numbers = front_more taken.line (front_more taken.quantity money) in
    front_more taken.order (front_more taken.part (front_more taken.supp numbers))

-- that line is the first, and has their value
pub begins-taken : (bytes rest : List ℕ) (key : KeyValue) (t : TupleValue) → TakesLine bytes rest key t
    → AreInRange key t → Begins bytes rest (Ok (key, t))
begins-taken bytes rest key t taken fits =
    let end = taken.tail in
    let front = front_taken taken in
    let value =
    fields_value-taken bytes rest key t taken (pieces 124 end.tail) fits end.fields.count end.fields.texts in
    record {
      line = front.line;
      lines = lines_of-text bytes front.line end.back rest front.cut front.text end.end;
      value = ap fields_value (fields_of-some front.line _ _ front.fields_are) ∙ value;
      shorter = end_shorter bytes front.line end.back rest front.cut end.end;
    }
