-- The reading of a list of numbers.
use Rattle.std.proofs.Common.{◌≡◌, ℕ, ◌+◌, ◌<◌, ◌∙◌, List, [], ◌∷◌, ◌++◌, length, drop, codes, Some, refl, sym, ap, append_assoc, arith}
use Rattle.std.proofs.lemmas.List.{length-append, nil_from_length, drop-append-le}
use Rattle.std.specs.List.{AllByRecursion}
use Rattle.query_report.specs.Field.{field, two_fields, each_text}
use Rattle.query_report.specs.Reading.{Left, Reads, Passes, Anything, EndsNumber, IsNumber}
use Rattle.query_report.specs.Reply.{list_text, more_text, rows_reply}
use Rattle.query_report.specs.Report.{IsRows}
use Rattle.query_report.proofs.Reading.{ReadsSome, field-ends, reads-and, reads-given, reads-as, reads-whole}

-- what a list of so many numbers is
abbrev IsList : ℕ → List ℕ → Type 0
IsList count list = (length list ≡ count) × AllByRecursion IsNumber list

-- the list of none
pub list-none : {before after : Left} {list : List ℕ} {count : ℕ} → count ≡ 0 → list ≡ []
    → Passes (codes " list=-") Anything before after
    → Reads list_text (IsList count) EndsNumber before list after
unfolding list_text
list-none {list = list} none_of is passes = record {
  sound = λ rest e. passes.sound rest e ∙ ap (λ list. Some (list_text list ++ rest)) (sym is);
  finds = λ other rest fits ends e.
      let none = nil_from_length other (fits.0 ∙ none_of) in
      (none ∙ sym is, passes.finds rest tt (e ∙ ap (λ list. Some (list_text list ++ rest)) none));
}

-- a number may stand before more of them
pub more_ends : (place : ℕ) (rows rest : List ℕ) → EndsNumber rest → EndsNumber (more_text place rows ++ rest)
unfolding each_text field
more_ends place [] rest ends = ends
more_ends place (row ∷ rows) rest ends = refl

-- one more number behind the first
pub push_behind : (front list pushed : List ℕ) (row : ℕ) → list ≡ front ++ drop 1 list → 0 < length list
    → pushed ≡ list ++ row ∷ [] → (drop 1 pushed ≡ drop 1 list ++ row ∷ []) × (pushed ≡ front ++ drop 1 pushed)
push_behind front list pushed row is some e =
    let rows = ap (drop 1) e ∙ drop-append-le 1 list (row ∷ []) (omega arith) in (
      rows,
      e ∙ ap (λ list. list ++ row ∷ []) is ∙ append_assoc front (drop 1 list) (row ∷ [])
          ∙ ap (λ rows. front ++ rows) (sym rows),
    )

-- the first
pub push_first : (list pushed : List ℕ) (row : ℕ) → list ≡ [] → pushed ≡ list ++ row ∷ [] → pushed ≡ row ∷ []
push_first list pushed row none e = e ∙ ap (λ list. list ++ row ∷ []) none

-- the first and the others
parts : List ℕ → ℕ × List ℕ
parts [] = (0, [])
parts (row ∷ rows) = (row, rows)

pub list-some : {before mid now : Left} {first count : ℕ} {list : List ℕ} → 0 < count → list ≡ first ∷ drop 1 list
    → Reads (field (codes " list=")) IsNumber EndsNumber before first mid
    → ReadsSome (λ place. field (codes ",")) IsNumber (λ rows. length rows + 1 ≡ count) EndsNumber 1 mid
    (drop 1 list) now
    → ((rest : List ℕ) → now ≡ Some rest → length list ≡ count) → Reads list_text
    (IsList count) EndsNumber before list now
unfolding list_text parts
list-some {first = first} {count = count} {list = list} some_of is head some all =
    let rows = drop 1 list in
    let len : length list ≡ length rows + 1 = ap length is ∙ omega arith in
    let whole = reads-whole some (λ left rest fits ends e.
    nil_from_length left (omega (arith, fits, len, all _ e, length-append rows left))) in
    let raw = reads-and head whole (λ rows rest fits ends. more_ends 1 rows rest ends) in
    reads-as list_text (IsList count) list parts raw (λ rest e. ap list_text is) fit text
    (λ other fits e. back other fits e ∙ sym is)
  where
    fit : (other : List ℕ) → IsList count other
        → IsNumber (parts other).0 × ((length (parts other).1 + 1 ≡ count) × AllByRecursion IsNumber (parts other).1)
    fit [] fits = absurd (omega (arith, fits.0))
    fit (row ∷ rows) fits = (fits.1.0, (omega (arith, fits.0), fits.1.1))

    text : (other : List ℕ) → IsList count other
        → list_text other ≡ field (codes " list=") (parts other).0 ++ more_text 1 (parts other).1
    text [] fits = absurd (omega (arith, fits.0))
    text (row ∷ rows) fits = refl

    back : (other : List ℕ) → IsList count other → parts other ≡ (first, drop 1 list) → other ≡ first ∷ drop 1 list
    back [] fits e = absurd (omega (arith, fits.0))
    back (row ∷ rows) fits e = ap (λ p. p.0 ∷ p.1) e

-- a list may follow a number
list_ends : (list rest : List ℕ) → EndsNumber (list_text list ++ rest)
unfolding list_text field
list_ends [] rest = refl
list_ends (row ∷ rows) rest = refl

flat : (ℕ × ℕ) × (List ℕ × ℕ) → ℕ × List ℕ × ℕ
flat p = (p.0.0, p.1.0, p.1.1)

-- a front, a count, as many numbers, and how many deltas were looked at
pub rows-read : {before mid behind after : Left} {front count patched : ℕ} {list : List ℕ}
    → Reads (λ (n : ℕ × ℕ). two_fields (codes "rows front=") n.0 (codes " count=") n.1)
    (λ n. IsNumber n.0 × IsNumber n.1)
    EndsNumber before (front, count) mid
    → Reads list_text (IsList count) EndsNumber mid list behind
    → ((rest : List ℕ) → behind ≡ Some rest → length list ≡ count)
    → Reads (field (codes " patched=")) IsNumber EndsNumber behind patched after
    → Reads (λ (rows : ℕ × List ℕ × ℕ). rows_reply rows.0 rows.1 rows.2) IsRows EndsNumber before
    (front, list, patched) after
unfolding flat
rows-read {front = front} {count = count} {patched = patched} {list = list} head rows all last =
    let tail = reads-and rows last (λ n rest fit ends. field-ends (codes " patched=") n rest refl) in
    let raw = reads-given (λ (p : (ℕ × ℕ) × (List ℕ × ℕ)).
    (IsNumber p.0.0 × IsNumber p.0.1) × (IsList p.0.1 p.1.0 × IsNumber p.1.1)) head tail (λ p fits. fits.0)
    (λ p fits is. ((fits.1.0.0 ∙ ap (λ n. n.1) is, fits.1.0.1), fits.1.1))
    (λ p rest fits ends. rw append_assoc (list_ends p.1.0 (field (codes " patched=") p.1.1 ++ rest))) in
    reads-as _ _ _ (λ (rows : ℕ × List ℕ × ℕ). ((rows.0, length rows.1), (rows.1, rows.2))) raw
    (λ rest e. ap (λ n. two_fields (codes "rows front=") front (codes " count=") n ++ (list_text list ++ field
    (codes " patched=") patched))
    (all _ (last.sound rest e)))
    (λ rows fits. ((fits.0, fits.1), ((refl, fits.2), fits.3))) (λ rows fits. refl) (λ rows fits e. ap flat e)
