-- The entries of a key page.
use Rattle.std.proofs.Common.{◌≡◌, ◌≢◌, ℕ, zero, suc, ◌+◌, ◌*◌, ◌/◌, ◌%◌, ◌<◌, List, [], ◌∷◌, length, map, get_or, Some, None, refl, sym, ap, ◌∙◌, inl, inr, arith}
use Rattle.std.specs.Prelude.{slice_index}
use Rattle.std.specs.List.Sorted.{IsStrictlyIncreasing}
use Rattle.std.proofs.lemmas.Bool.{cases_order}
use Rattle.std.proofs.lemmas.List.{get_or-map, length-map}
use Rattle.cubit_base.specs.Key.{KeyValue}
use Rattle.unit_version.specs.declared.keys.entry.Entry.{Entry}
use Rattle.unit_version.specs.KeyedRow.{KeyedRow, row_of_key, by_row}
use Rattle.unit_version.specs.Entry.{code_of, key_of_code, keyed, codes}
use Rattle.unit_version.proofs.KeyedRows.{Has, Has-by_row, by_row-Has, row_of_key-none, row_of_key-found}
use Rattle.unit_version.proofs.Rising.{rising-far}

-- a live row is that of the entry at a place
pub record IsAt (rest : ℕ) (entries : List Entry) (x : KeyedRow) : Type 0 where
  pub place : ℕ
  pub entry : Entry
  pub within : place < length entries
  pub at : (d : Entry) → get_or entries place d ≡ entry
  pub is : keyed rest entry ≡ x

-- each live row of the entries has a place
pub IsAt-Has : (rest : ℕ) (entries : List Entry) (x : KeyedRow) → Has (map (keyed rest) entries) x → IsAt rest entries x
IsAt-Has rest [] x has = absurd has
IsAt-Has rest (e ∷ entries) x (inl here) =
    record { place = 0; entry = e; within = omega arith; at = λ d. refl; is = here }
IsAt-Has rest (e ∷ entries) x (inr there) =
    let found = IsAt-Has rest entries x there in
    record {
      place = suc found.place;
      entry = found.entry;
      within = omega (arith, found.within);
      at = found.at;
      is = found.is;
    }

-- in the order of rows too
pub IsAt-by_row : (rest : ℕ) (entries : List Entry) (x : KeyedRow) → Has (by_row (map (keyed rest) entries)) x
    → IsAt rest entries x
IsAt-by_row rest entries x has = IsAt-Has rest entries x (Has-by_row (map (keyed rest) entries) x has)

-- and each entry's live row is one of them
pub Has-keyed : (rest : ℕ) (entries : List Entry) (i : ℕ) (d : Entry) → i < length entries
    → Has (map (keyed rest) entries) (keyed rest (get_or entries i d))
Has-keyed rest [] i d within = absurd (omega arith)
Has-keyed rest (e ∷ entries) zero d within = inl refl
Has-keyed rest (e ∷ entries) (suc i) d within = inr (Has-keyed rest entries i d (omega arith))

-- a code tells its key within a page, and a key its code
pub code_of-key : (rest code : ℕ) → rest < 64 → code_of (key_of_code rest code) ≡ code
code_of-key rest code low = omega arith

pub key_of-code : (key : KeyValue) → key.line < 8 → key_of_code (key.order % 64) (code_of key) ≡ key
key_of-code key low =
    let order : (key.order / 64 * 8 + key.line) / 8 * 64 + key.order % 64 ≡ key.order = omega arith in
    let line : (key.order / 64 * 8 + key.line) % 8 ≡ key.line = omega arith in
    let built : (f : ℕ → ℕ → KeyValue) → f ((key.order / 64 * 8 + key.line) / 8 * 64 + key.order % 64)
    ((key.order / 64 * 8 + key.line) % 8) ≡ f key.order key.line = λ f. rw (order, line) refl in
    built (λ o l. record { order = o; line = l })

-- the order of a key of a page leaves its rest
pub rest_of-key : (rest code : ℕ) → rest < 64 → (key_of_code rest code).order % 64 ≡ rest
rest_of-key rest code low = omega arith

-- a key of another page is not found
pub row_of_key-other_page : (rest : ℕ) (entries : List Entry) (key : KeyValue) → rest < 64 → key.order % 64 ≢ rest
    → row_of_key (by_row (map (keyed rest) entries)) key ≡ None
row_of_key-other_page rest entries key low other =
    row_of_key-none (by_row (map (keyed rest) entries)) key (λ x has same.
    let found = IsAt-by_row rest entries x has in
    let is : key_of_code rest found.entry.code ≡ key = ap (λ (r : KeyedRow). r.key) found.is ∙ same in
    other (ap (λ (k : KeyValue). k.order % 64) (sym is) ∙ rest_of-key rest found.entry.code low))

-- nor one whose code no entry has
pub row_of_key-absent : (rest : ℕ) (entries : List Entry) (key : KeyValue) → rest < 64
    → ((i : ℕ) → i < length (codes entries) → slice_index (codes entries) i ≢ code_of key)
    → row_of_key (by_row (map (keyed rest) entries)) key ≡ None
row_of_key-absent rest entries key low absent =
    row_of_key-none (by_row (map (keyed rest) entries)) key (λ x has same.
    let found = IsAt-by_row rest entries x has in
    let is : key_of_code rest found.entry.code ≡ key = ap (λ (r : KeyedRow). r.key) found.is ∙ same in
    let code = λ (e : Entry). e.code in
    let here = get_or-map code entries found.place found.entry 0 found.within ∙ ap code (found.at found.entry) in
    absent found.place (omega (arith, found.within, length-map entries code))
    (here ∙ sym (code_of-key rest found.entry.code low) ∙ ap code_of is))

-- two entries with one code are one
same-code : (entries : List Entry) (i j : ℕ) (a b : Entry) → IsStrictlyIncreasing (codes entries) → i < length entries
    → j < length entries → ((d : Entry) → get_or entries i d ≡ a) → ((d : Entry) → get_or entries j d ≡ b)
    → a.code ≡ b.code → a ≡ b
same-code entries i j a b up i_within j_within at_i at_j same =
    let code = λ (e : Entry). e.code in
    let long = length-map entries code in
    let of_a : slice_index (codes entries) i ≡ a.code =
    get_or-map code entries i a 0 i_within ∙ ap code (at_i a) in
    let of_b : slice_index (codes entries) j ≡ b.code =
    get_or-map code entries j b 0 j_within ∙ ap code (at_j b) in
    elim (cases_order i j) [
      | inl one ↦ sym (at_i a) ∙ ap (λ n. get_or entries n a) one ∙ at_j a
      | inr apart ↦ elim apart [
        | inl less ↦
            let below = rising-far (codes entries) up i j less (omega arith) in
            absurd (omega (arith, of_a, of_b))
        | inr more ↦
            let below = rising-far (codes entries) up j i more (omega arith) in
            absurd (omega (arith, of_a, of_b))
      ]
    ]

-- a key of the page is found at the entry with its code
pub row_of_key-at : (rest : ℕ) (entries : List Entry) (key : KeyValue) (place : ℕ) (e : Entry)
    → key.order % 64 ≡ rest → key.line < 8 → IsStrictlyIncreasing (codes entries) → place < length entries
    → ((d : Entry) → get_or entries place d ≡ e) → e.code ≡ code_of key
    → row_of_key (by_row (map (keyed rest) entries)) key ≡ Some (e.row, e.tuple)
row_of_key-at rest entries key place e of_page low up within at same =
    let rest_low : rest < 64 = omega arith in
    let rows = map (keyed rest) entries in
    let is : key_of_code rest e.code ≡ key = rw same (rw of_page at (key_of-code key low)) in
    let has : Has rows (keyed rest e) = rw (at e) at (Has-keyed rest entries place e within) in
    let found : row_of_key (by_row rows) (keyed rest e).key ≡ Some (e.row, e.tuple) =
    row_of_key-found (by_row rows) (keyed rest e) (by_row-Has rows (keyed rest e) has) (λ y y_has y_same.
    let other = IsAt-by_row rest entries y y_has in
    let y_code : other.entry.code ≡ e.code =
    sym (code_of-key rest other.entry.code rest_low) ∙ ap code_of (ap (λ (r : KeyedRow). r.key) other.is ∙ y_same)
    ∙ code_of-key rest e.code rest_low in
    sym other.is ∙ ap (keyed rest)
    (same-code entries other.place place other.entry e up other.within within other.at at y_code)) in
    rw is at found
