-- What a line of a script asks for, by cases on its first word, or the number of its fault.
use Rattle.std.specs.Prelude.{ℕ, ◌+◌, ◌==◌, nat_le, List, [], ◌∷◌, length, drop, codes, bytes_eq, Option, Some, None, Result, Ok, Err, if◌then◌else◌}
use Rattle.std.specs.Str.{is_utf8}
use Rattle.cubit_base.specs.Key.{KeyValue}
use Rattle.cubit_base.specs.Tuple.{TupleValue}
use Rattle.cubit_base.specs.Predicate.{q6_predicate}
use Rattle.cubit_base.specs.declared.command.Command.{Command}
use Rattle.cubit_base.specs.declared.command.Command.TheVariants as command
use Rattle.cubit_base.specs.declared.predicate.Predicate.{Predicate}
use Rattle.tbl_text.specs.declared.line.LineFault.{LineFault}
use Rattle.tbl_text.specs.declared.line.LineFault.TheVariants as fault
use Rattle.tbl_text.specs.Field.{integer_value, money_value, quantity_value}
use Rattle.tbl_text.specs.Line.{◌>>=◌, within, fault_number}
use Rattle.tbl_text.specs.Values.{words_of, tuple_value}
use Rattle.refresh_streams.specs.Term.{number_within, predicate_of}
use Rattle.refresh_streams.specs.Script.{DropsSomeOrder}
use Rattle.refresh_streams.specs.declared.script_line.Asked.{Asked}
use Rattle.refresh_streams.specs.declared.script_line.Asked.TheVariants as asked
use Rattle.refresh_streams.specs.declared.script_line.Verb.{Verb}
use Rattle.refresh_streams.specs.declared.script_line.Verb.TheVariants.{Insert, Update, Delete, Drop, Lookup, Rows, Count, Sum, Q6, Merge, InsertFile, DeleteFile}

-- what a line asks for: nothing, one command, or those of a refresh file with this name
pub data Request : Type 0 where
  Nothing : Request
  One : Command → Request
  Inserts : List ℕ → Request
  Deletes : List ℕ → Request

abbrev pub verb_named : List ℕ → Option Verb
verb_named word =
    if bytes_eq word (codes "insert") then Some Insert
    else (if bytes_eq word (codes "update") then Some Update
    else (if bytes_eq word (codes "delete") then Some Delete
    else (if bytes_eq word (codes "drop") then Some Drop
    else (if bytes_eq word (codes "lookup") then Some Lookup
    else (if bytes_eq word (codes "rows") then Some Rows
    else (if bytes_eq word (codes "count") then Some Count
    else (if bytes_eq word (codes "sum") then Some Sum
    else (if bytes_eq word (codes "q6") then Some Q6
    else (if bytes_eq word (codes "merge") then Some Merge
    else (if bytes_eq word (codes "insert-file") then Some InsertFile
    else (if bytes_eq word (codes "delete-file") then Some DeleteFile
    else None)))))))))))

-- a line that is no line of a script
abbrev pub malformed : {A : Type 0} → Result A ℕ
malformed = Err 14

-- a fault of a field by its number
abbrev pub numbered : {A : Type 0} → Result A LineFault → Result A ℕ
numbered (Ok value) = Ok value
numbered (Err f) = Err (fault_number f)

-- an order
abbrev pub order_value : List ℕ → Result ℕ LineFault
order_value order = within 1 4_294_967_295 (integer_value order) fault.Order

-- a key of two fields, judged from left to right
abbrev pub key_value : List ℕ → List ℕ → Result KeyValue LineFault
key_value order line = do
  key_order ← order_value order
  key_line ← within 1 7 (integer_value line) fault.Line
  Ok (record { order = key_order; line = key_line })

-- a key and a tuple of nine fields, judged from left to right
abbrev pub row_value : List ℕ → List ℕ → List (List ℕ) → Result (KeyValue × TupleValue) LineFault
row_value order line values = do
  key ← key_value order line
  tuple ← tuple_value values
  Ok (key, tuple)

-- the fields behind each kind of first word
abbrev pub row_of : List (List ℕ) → Result (KeyValue × TupleValue) ℕ
row_of (order ∷ line ∷ values) = if length values == 7 then numbered (row_value order line values) else malformed
row_of fields = malformed

abbrev pub key_of : List (List ℕ) → Result KeyValue ℕ
key_of (order ∷ line ∷ []) = numbered (key_value order line)
key_of fields = malformed

abbrev pub order_of : List (List ℕ) → Result ℕ ℕ
order_of (order ∷ []) = numbered (order_value order)
order_of fields = malformed

-- five terms at most
abbrev pub or_bad_term : Option Predicate → Result Predicate ℕ
or_bad_term None = Err 18
or_bad_term (Some p) = Ok p

abbrev pub query_of : List (List ℕ) → Result Predicate ℕ
query_of terms = if nat_le (length terms) 5 then or_bad_term (predicate_of terms) else malformed

-- a year from 1992 to 1998, money of at most ten hundredths, and a quantity from 1 to 51
abbrev pub q6_of_numbers : Option ℕ → Option ℕ → Option ℕ → Result Predicate ℕ
q6_of_numbers (Some year) (Some disc) (Some qty) = Ok (q6_predicate year disc qty)
q6_of_numbers year disc qty = malformed

abbrev pub q6_of : List (List ℕ) → Result Predicate ℕ
q6_of (year ∷ disc ∷ qty ∷ []) =
    q6_of_numbers (number_within 1992 1998 (integer_value year)) (number_within 0 10 (money_value disc))
    (number_within 1 51 (quantity_value qty))
q6_of fields = malformed

abbrev pub merge_of : List (List ℕ) → Result Request ℕ
merge_of [] = Ok (One command.Merge)
merge_of fields = malformed

-- a name is at least one byte, and text
abbrev pub name_of : List ℕ → Result (List ℕ) ℕ
name_of [] = malformed
name_of (b ∷ name) = if is_utf8 (b ∷ name) then Ok (b ∷ name) else malformed

abbrev pub asks : {A : Type 0} → (A → Request) → Result A ℕ → Result Request ℕ
asks request (Ok value) = Ok (request value)
asks request (Err f) = Err f

-- what a line with this first word asks for: the words behind it are given, and all bytes behind it
abbrev pub verb_asks : Verb → List (List ℕ) → List ℕ → Result Request ℕ
verb_asks Insert fields rest = asks (λ row. One (command.Insert row.0 row.1)) (row_of fields)
verb_asks Update fields rest = asks (λ row. One (command.Update row.0 row.1)) (row_of fields)
verb_asks Delete fields rest = asks (λ key. One (command.Delete key)) (key_of fields)
verb_asks Drop fields rest = asks (λ order. One (command.DropOrder order)) (order_of fields)
verb_asks Lookup fields rest = asks (λ key. One (command.Lookup key)) (key_of fields)
verb_asks Rows fields rest = asks (λ p. One (command.Rows p)) (query_of fields)
verb_asks Count fields rest = asks (λ p. One (command.Count p)) (query_of fields)
verb_asks Sum fields rest = asks (λ p. One (command.Sum p)) (query_of fields)
verb_asks Q6 fields rest = asks (λ p. One (command.Q6 p)) (q6_of fields)
verb_asks Merge fields rest = merge_of fields
verb_asks InsertFile fields rest = asks Inserts (name_of rest)
verb_asks DeleteFile fields rest = asks Deletes (name_of rest)

abbrev pub word_asks : Option Verb → List (List ℕ) → List ℕ → Result Request ℕ
word_asks None fields rest = malformed
word_asks (Some verb) fields rest = verb_asks verb fields rest

abbrev pub words_ask : List (List ℕ) → List ℕ → Result Request ℕ
words_ask [] line = malformed
words_ask (word ∷ fields) line = word_asks (verb_named word) fields (drop (length word + 1) line)

-- an empty line and a comment ask for nothing
abbrev pub line_asks : List ℕ → Result Request ℕ
line_asks [] = Ok Nothing
line_asks (b ∷ line) = if b == 35 then Ok Nothing else words_ask (words_of (b ∷ line)) (b ∷ line)

-- what was found
abbrev pub request_of : Asked → Request
request_of asked.Nothing = Nothing
request_of (asked.One command) = One command
request_of (asked.Inserts name) = Inserts name.now
request_of (asked.Deletes name) = Deletes name.now

abbrev pub AsksSomeOrder : Asked → Type 0
AsksSomeOrder (asked.One command) = DropsSomeOrder command
AsksSomeOrder other = Unit {0}
