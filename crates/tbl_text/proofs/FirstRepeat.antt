-- The first fault among rows that were read is the first repeat of a key.
use Rattle.std.proofs.Common.{◌≡◌, ◌≢◌, ℕ, ◌+◌, ◌<◌, ◌≤◌, zero, suc, Bool, true, false, List, [], ◌∷◌, ◌++◌, length, get_or, take, Option, Some, None, option_map, Err, refl, sym, ap, ◌∙◌, arith}
use Rattle.std.specs.Prelude.{filter_map, position}
use Rattle.std.specs.List.{enumerate_from}
use Rattle.std.specs.Option.{option_to_list}
use Rattle.std.proofs.lemmas.Bool.{lt-ltb, le-ltb}
use Rattle.std.proofs.lemmas.List.{get_or-take, length-take-le}
use Rattle.std.proofs.lemmas.List.Sums.{position_or_len_is}
use Rattle.cubit_base.specs.Key.{same_key}
use Rattle.cubit_base.specs.Table.{Row, HasDistinctKeys}
use Rattle.tbl_text.specs.Lines.{lines_of}
use Rattle.tbl_text.specs.Base.{LinesFault, Twice, base_value, first_fault_or}
use Rattle.tbl_text.specs.declared.base.ReadEnd.{ReadEnd}
use Rattle.tbl_text.specs.Reading.{fault_of_end, read_from}
use Rattle.tbl_text.specs.Repeats.{IsFirstRepeat}
use Rattle.tbl_text.proofs.Keys.{same_key-same, same_key-other}
use Rattle.tbl_text.proofs.FirstFault.{base_value-read, repeat_at, value_behind}

-- no place
position-none : {A : Type 0} (p : A → Bool) (xs : List A) (d : A)
    → ((k : ℕ) → k < length xs → p (get_or xs k d) ≡ false) → position p xs ≡ None
position-none p xs d nowhere =
    let len = length xs in
    rw (
      position_or_len_is p xs len d (omega arith) nowhere (λ past. absurd (omega arith)),
      le-ltb len len (omega arith),
    )
    refl

-- the first place
position-first : {A : Type 0} (p : A → Bool) (xs : List A) (i : ℕ) (d : A) → i < length xs
    → ((k : ℕ) → k < i → p (get_or xs k d) ≡ false) → p (get_or xs i d) ≡ true → position p xs ≡ Some i
position-first p xs i d within before here =
    rw (position_or_len_is p xs i d (omega arith) before (λ _. here), lt-ltb i (length xs) within) refl

-- a row whose key no earlier row has
repeat_at-none : (rows : List Row) (place : ℕ) (row d : Row) → place ≤ length rows
    → ((k : ℕ) → k < place → (get_or rows k d).0 ≢ row.0) → repeat_at rows place row ≡ None
repeat_at-none rows place row d within differ =
    let earlier = take place rows in
    let len : length earlier ≡ place = length-take-le place rows within in
    let other : (k : ℕ) → k < length earlier → same_key (get_or earlier k d).0 row.0 ≡ false =
    λ k below.
    let at : k < place = omega arith in
    rw (get_or-take place rows k d at) (same_key-other _ _ (differ k at)) in
    ap (option_map (λ first. Twice (place + 1) (first + 1)))
    (position-none (λ (r : Row). same_key r.0 row.0) earlier d other)

-- a row whose key an earlier row has, and no row before that
repeat_at-some : (rows : List Row) (place first : ℕ) (row d : Row) → place ≤ length rows → first < place
    → ((k : ℕ) → k < first → (get_or rows k d).0 ≢ row.0) → (get_or rows first d).0 ≡ row.0
    → repeat_at rows place row ≡ Some (Twice (place + 1) (first + 1))
repeat_at-some rows place first row d within order before same =
    let earlier = take place rows in
    let len : length earlier ≡ place = length-take-le place rows within in
    let other : (k : ℕ) → k < first → same_key (get_or earlier k d).0 row.0 ≡ false =
    λ k below.
    let at : k < place = omega arith in
    rw (get_or-take place rows k d at) (same_key-other _ _ (before k below)) in
    let here : same_key (get_or earlier first d).0 row.0 ≡ true =
    rw (get_or-take place rows first d order) (same_key-same _ _ same) in
    ap (option_map (λ n. Twice (place + 1) (n + 1)))
    (position-first (λ (r : Row). same_key r.0 row.0) earlier first d (omega arith) other here)

-- no fault at any place
filter_map-none : (h : ℕ × Row → Option LinesFault) (place : ℕ) (rows : List Row)
    → ((k n : ℕ) (d : Row) → n ≡ place + k → k < length rows → h (n, get_or rows k d) ≡ None)
    → filter_map h (enumerate_from place rows) ≡ []
filter_map-none h place [] none = refl
filter_map-none h place (row ∷ rows) none =
    rw (none 0 place row (omega arith) (omega arith))
    (filter_map-none h (place + 1) rows (λ k n d is within. none (suc k) n d (omega arith) (omega arith)))

-- the fault at the first place that has one
first_fault-at : (h : ℕ × Row → Option LinesFault) (place : ℕ) (rows : List Row) (i : ℕ) (d : Row) (f : LinesFault)
    (more : List LinesFault) (all : List Row) → ((k n : ℕ) → n ≡ place + k → k < i → h (n, get_or rows k d) ≡ None)
    → i < length rows → ((n : ℕ) → n ≡ place + i → h (n, get_or rows i d) ≡ Some f)
    → first_fault_or (filter_map h (enumerate_from place rows) ++ more) all ≡ Err f
first_fault-at h place [] i d f more all none within some = absurd (omega arith)
first_fault-at h place (row ∷ rows) zero d f more all none within some = rw (some place (omega arith)) refl
first_fault-at h place (row ∷ rows) (suc i) d f more all none within some =
    rw (none 0 place (omega arith) (omega arith))
    (first_fault-at h (place + 1) rows i d f more all
    (λ k n is below. none (suc k) n (omega arith) (omega arith)) (omega arith) (λ n is. some n (omega arith)))

-- where the keys differ, only what stopped the reading counts
value-distinct : (rows : List Row) (stop : Option LinesFault) → HasDistinctKeys rows
    → value_behind [] 0 (rows, stop) ≡ first_fault_or (option_to_list stop) rows
value-distinct rows stop distinct =
    let none : (k n : ℕ) (d : Row) → n ≡ 0 + k → k < length rows → repeat_at rows n (get_or rows k d) ≡ None =
    λ k n d is within.
    let at : n ≡ k = omega arith in
    rw at (repeat_at-none rows k (get_or rows k d) d (omega arith) (λ j below. distinct j k d below within)) in
    rw (filter_map-none (λ p. repeat_at rows p.0 p.1) 0 rows none) refl

-- the keys before the first repeat differ
distinct-before : (rows : List Row) (earlier later : ℕ) → IsFirstRepeat rows earlier later → (i j : ℕ) (d : Row)
    → i < j → j < later → (get_or rows i d).0 ≢ (get_or rows j d).0
distinct-before rows earlier later repeat i j d order below =
    let within : i < later = omega arith in
    let differ = repeat.distinct i j d order (omega (arith, length-take-le later rows, repeat.within)) in
    rw (get_or-take later rows i d within, get_or-take later rows j d below) at differ

-- a repeat among the rows comes before what stopped the reading
value-repeat : (rows : List Row) (stop : Option LinesFault) (d : Row) (earlier later : ℕ)
    → IsFirstRepeat rows earlier later → value_behind [] 0 (rows, stop) ≡ Err (Twice (later + 1) (earlier + 1))
value-repeat rows stop d earlier later repeat =
    let differ = distinct-before rows earlier later repeat in
    let within = repeat.within in
    let twice = Twice (later + 1) (earlier + 1) in
    let none : (k n : ℕ) → n ≡ 0 + k → k < later → repeat_at rows n (get_or rows k d) ≡ None =
    λ k n is below.
    let at : n ≡ k = omega arith in
    let other = λ (j : ℕ) (before : j < k). differ j k d before below in
    rw at (repeat_at-none rows k (get_or rows k d) d (omega arith) other) in
    let before : (k : ℕ) → k < earlier → (get_or rows k d).0 ≢ (get_or rows later d).0 =
    λ k below. rw (← repeat.same d) (differ k earlier d below repeat.order) in
    let here : repeat_at rows later (get_or rows later d) ≡ Some twice =
    repeat_at-some rows later earlier (get_or rows later d) d (omega arith) repeat.order before (repeat.same d) in
    let some : (n : ℕ) → n ≡ 0 + later → repeat_at rows n (get_or rows later d) ≡ Some twice =
    λ n is. let at : n ≡ later = omega arith in rw at here in
    first_fault-at (λ p. repeat_at rows p.0 p.1) 0 rows later d twice (option_to_list stop) rows none within some

-- the value of a file, of which these rows were read up to a known end, where the rows' keys differ
pub base_value-distinct : (limit : ℕ) (bytes : List ℕ) (rows : List Row) (end known : ReadEnd)
    → (rows, fault_of_end end) ≡ read_from limit 0 (lines_of bytes) → HasDistinctKeys rows → end ≡ known
    → base_value limit bytes ≡ first_fault_or (option_to_list (fault_of_end known)) rows
base_value-distinct limit bytes rows end known is distinct ends =
    base_value-read limit bytes
    ∙ ap (value_behind [] 0) (sym is)
    ∙ value-distinct rows (fault_of_end end) distinct
    ∙ ap (λ e. first_fault_or (option_to_list (fault_of_end e)) rows) ends

-- and where they do not, whatever the end
pub base_value-repeat : (limit : ℕ) (bytes : List ℕ) (rows : List Row) (end : ReadEnd) (earlier later : ℕ)
    → (rows, fault_of_end end) ≡ read_from limit 0 (lines_of bytes) → IsFirstRepeat rows earlier later
    → base_value limit bytes ≡ Err (Twice (later + 1) (earlier + 1))
base_value-repeat limit bytes [] end earlier later is repeat = absurd (omega (arith, repeat.within))
base_value-repeat limit bytes (row ∷ rows) end earlier later is repeat =
    base_value-read limit bytes
    ∙ ap (value_behind [] 0) (sym is)
    ∙ value-repeat (row ∷ rows) (fault_of_end end) row earlier later repeat
