-- The first fault of a file is the first repeated key of the rows that were read, or else what stopped the reading.
use Rattle.std.proofs.Common.{◌≡◌, ℕ, ◌+◌, Bool, true, false, cond, not, ◌==◌, List, [], ◌∷◌, ◌++◌, length, take, map, Option, Some, None, option_map, Result, Ok, Err, refl, sym, ap, ◌∙◌, append_assoc}
use Rattle.std.specs.Prelude.{filter_map, position}
use Rattle.std.specs.List.{enumerate_from, prefix_len, cons_option}
use Rattle.std.specs.Option.{option_to_list}
use Rattle.std.proofs.lemmas.List.{take_at, map_push, length_push, length-map}
use Rattle.cubit_base.specs.Key.{KeyValue, same_key}
use Rattle.cubit_base.specs.Tuple.{TupleValue}
use Rattle.cubit_base.specs.Table.{Row}
use Rattle.tbl_text.specs.declared.line.LineFault.{LineFault}
use Rattle.tbl_text.specs.Line.{line_value}
use Rattle.tbl_text.specs.Lines.{lines_of}
use Rattle.tbl_text.specs.Base.{LinesFault, TooMany, Twice, rows_of_lines, row_of_value, value_has_key, own_fault, fault_at, first_fault_or, base_value}
use Rattle.tbl_text.specs.Reading.{Read, read_from, onto_read}

-- the fault of a row that has the key of an earlier row
abbrev pub repeat_at : List Row → ℕ → Row → Option LinesFault
repeat_at rows place row =
    option_map (λ first. Twice (place + 1) (first + 1))
    (position (λ earlier. same_key earlier.0 row.0) (take place rows))

-- all of these, where the first of the later rows has a place
abbrev pub repeats_from : List Row → ℕ → List Row → List LinesFault
repeats_from rows place later = filter_map (λ p. repeat_at rows p.0 p.1) (enumerate_from place later)

-- all faults of the later lines, where the first of them has a place
abbrev faults_from : ℕ → List (List ℕ) → ℕ → List (List ℕ) → List LinesFault
faults_from limit lines place later = filter_map (λ p. fault_at limit lines p.0 p.1) (enumerate_from place later)

-- what comes of these rows and of what is read behind them from a place on
abbrev pub value_behind : List Row → ℕ → Read → Result (List Row) LinesFault
value_behind front place read =
    first_fault_or (repeats_from (front ++ read.0) place read.0 ++ option_to_list read.1) (front ++ read.0)

-- so many lines are these rows: each key stands at the same places of both
record AreRows (place : ℕ) (lines : List (List ℕ)) (rows : List Row) : Type 0 where
  lines_len : length lines ≡ place
  rows_len : length rows ≡ place
  keys : (key : KeyValue)
      → map (λ line. value_has_key key (line_value line)) lines ≡ map (λ row. same_key row.0 key) rows

-- one line more
AreRows-push : (place : ℕ) (lines : List (List ℕ)) (rows : List Row) (line : List ℕ) (key : KeyValue)
    (tuple : TupleValue) → AreRows place lines rows → line_value line ≡ Ok (key, tuple)
    → AreRows (place + 1) (lines ++ line ∷ []) (rows ++ (key, Some tuple) ∷ [])
AreRows-push place lines rows line key tuple are is = record {
  lines_len = length_push lines line ∙ ap (λ n. n + 1) are.lines_len;
  rows_len = length_push rows (key, Some tuple) ∙ ap (λ n. n + 1) are.rows_len;
  keys = λ k. simp (map_push, are.keys k, is) refl;
}

-- a place depends on the tests' answers alone
prefix_len-map : {A B : Type 0} (p : B → Bool) (f : A → B) (xs : List A)
    → prefix_len (λ x. p (f x)) xs ≡ prefix_len p (map f xs)
prefix_len-map p f [] = refl
prefix_len-map p f (x ∷ xs) = ap (λ n. cond (p (f x)) (1 + n) 0) (prefix_len-map p f xs)

position-map : {A : Type 0} (p : A → Bool) (xs : List A) → position p xs ≡ position (λ b. b) (map p xs)
position-map p xs = rw (← prefix_len-map not p xs, length-map) refl

position-keys : (place : ℕ) (lines : List (List ℕ)) (rows : List Row) → AreRows place lines rows → (key : KeyValue)
    → position (λ line. value_has_key key (line_value line)) lines ≡ position (λ row. same_key row.0 key) rows
position-keys place lines rows are key =
    position-map (λ line. value_has_key key (line_value line)) lines
    ∙ ap (position (λ b. b)) (are.keys key)
    ∙ sym (position-map (λ row. same_key row.0 key) rows)

-- the later lines, with the earlier ones' rows in front, have the value that what is read of them makes
abbrev Agrees : ℕ → List (List ℕ) → ℕ → List (List ℕ) → List Row → Read → Type 0
Agrees limit lines place later front read =
    first_fault_or (faults_from limit lines place later) (front ++ rows_of_lines later) ≡ value_behind front place read

-- what the line at a place is read as, where it is known whether it is one too many and what it says
abbrev read_known : ℕ → Bool → Result (KeyValue × TupleValue) LineFault → Read → Read
read_known place is_over value read = cond is_over ([], Some (TooMany (place + 1))) (onto_read place value read)

-- and what is wrong with it
abbrev fault_known : ℕ → Bool → List (List ℕ) → Result (KeyValue × TupleValue) LineFault → Option LinesFault
fault_known place is_over earlier value =
    cond is_over (Some (TooMany (place + 1))) (own_fault (place + 1) earlier value)

-- a line with a key, of which it is known where among the earlier rows it stands
first_fault-key : (place : ℕ) (faults repeats : List LinesFault) (rows all : List Row) (stop : List LinesFault)
    (first : Option ℕ) → first_fault_or faults rows ≡ first_fault_or (repeats ++ stop) all
    → let twice = option_map (λ n. Twice (place + 1) (n + 1)) first in
    first_fault_or (cons_option twice faults) rows ≡ first_fault_or (cons_option twice repeats ++ stop) all
first_fault-key place faults repeats rows all stop None known = known
first_fault-key place faults repeats rows all stop (Some n) known = refl

-- one line, where the later lines agree with what is read of them
first_fault-line : (limit place : ℕ) (earlier later : List (List ℕ)) (line : List ℕ) (front : List Row) (is_over : Bool)
    (value : Result (KeyValue × TupleValue) LineFault) → AreRows place earlier front → line_value line ≡ value
    → ((row : Row) → AreRows (place + 1) (earlier ++ line ∷ []) (front ++ row ∷ [])
    → Agrees limit (earlier ++ line ∷ later) (place + 1) later (front ++ row ∷ []) (read_from limit (place + 1) later))
    → let faults = faults_from limit (earlier ++ line ∷ later) (place + 1) later in
    let rows = front ++ cons_option (row_of_value value) (rows_of_lines later) in
    first_fault_or (cons_option (fault_known place is_over earlier value) faults) rows
    ≡ value_behind front place (read_known place is_over value (read_from limit (place + 1) later))
first_fault-line limit place earlier later line front true value are is known = refl
first_fault-line limit place earlier later line front false (Err f) are is known = refl
first_fault-line limit place earlier later line front false (Ok (key, tuple)) are is known =
    let read : Read = read_from limit (place + 1) later in
    let row : Row = (key, Some tuple) in
    let rows : List Row = front ++ row ∷ read.0 in
    let faults = faults_from limit (earlier ++ line ∷ later) (place + 1) later in
    let first = position (λ other. same_key other.0 key) front in
    let behind = simp append_assoc at (known row (AreRows-push place earlier front line key tuple are is)) in
    rw (position-keys place earlier front are key, take_at front (row ∷ read.0) place are.rows_len)
    (first_fault-key place faults (repeats_from rows (place + 1) read.0) (front ++ row ∷ rows_of_lines later) rows
    (option_to_list read.1) first behind)

-- the first fault of the lines from a place on
first_fault-read : (limit place : ℕ) (earlier later : List (List ℕ)) (front : List Row) → AreRows place earlier front
    → Agrees limit (earlier ++ later) place later front (read_from limit place later)
first_fault-read limit place earlier [] front are = refl
first_fault-read limit place earlier (line ∷ later) front are =
    let known = λ (row : Row) (longer : AreRows (place + 1) (earlier ++ line ∷ []) (front ++ row ∷ [])).
    rw (append_assoc earlier (line ∷ []) later) at
    (first_fault-read limit (place + 1) (earlier ++ line ∷ []) later (front ++ row ∷ []) longer) in
    rw (take_at earlier (line ∷ later) place are.lines_len)
    (first_fault-line limit place earlier later line front (place == limit) (line_value line) are refl known)

-- a file's value is what comes of what is read of it
pub base_value-read : (limit : ℕ) (bytes : List ℕ)
    → base_value limit bytes ≡ value_behind [] 0 (read_from limit 0 (lines_of bytes))
base_value-read limit bytes =
    let none : AreRows 0 [] [] = record { lines_len = refl; rows_len = refl; keys = λ key. refl } in
    first_fault-read limit 0 [] (lines_of bytes) [] none
