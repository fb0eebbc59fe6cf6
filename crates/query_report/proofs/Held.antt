-- A tuple or none, told apart by the first byte.
use Rattle.std.proofs.Common.{◌≡◌, ℕ, ◌<◌, ◌∙◌, true, false, true≢false, List, [], ◌∷◌, ◌++◌, length, Option, Some, None, decimal, refl, sym, ap, append_assoc, arith, leb, leb-true, ne_eqb}
use Rattle.std.specs.List.{list_all}
use Rattle.std.proofs.lemmas.Bool.{and_parts}
use Rattle.std.proofs.lemmas.Bool.Decides.{Decides-eqb}
use Rattle.std.proofs.lemmas.Fmt.{digits_decimal, decimal_nonempty}
use Rattle.cubit_base.specs.Tuple.{TupleValue, IsTuple}
use Rattle.query_report.specs.Date.{date_text}
use Rattle.query_report.specs.Reading.{Left, Reads, Anything, begins, is_digit}
use Rattle.query_report.specs.Report.{IsHeld}
use Rattle.query_report.specs.TupleText.{hundredths_text, letters_text, amounts_text, held_text, tuple_text}
use Rattle.query_report.proofs.Front.{own}

-- digits begin with no hyphen
no_hyphen : (digits more : List ℕ) → list_all is_digit digits ≡ true → 0 < length digits
    → begins 45 (Some (digits ++ more)) ≡ false
no_hyphen [] more all some = absurd (omega arith)
no_hyphen (d ∷ digits) more all some =
    let parts = and_parts (is_digit d) (list_all is_digit digits) all in
    let low = leb-true 48 d (and_parts (leb 48 d) (leb d 57) parts.0).0 in
    ne_eqb d 45 (λ same. absurd (omega arith))

tuple_begins : (t : TupleValue) (rest : List ℕ) → IsTuple t → begins 45 (Some (tuple_text t ++ rest)) ≡ false
unfolding tuple_text amounts_text
tuple_begins t rest is =
    let prices = hundredths_text t.price ++ (hundredths_text t.disc ++ hundredths_text t.tax) in
    let end = letters_text t ++ date_text t.day in
    let text : tuple_text t ++ rest ≡ decimal t.qty ++ (prices ++ (end ++ rest)) =
    append_assoc (amounts_text t) end rest ∙ append_assoc (decimal t.qty) prices (end ++ rest) in
    ap (λ bytes. begins 45 (Some bytes)) text
    ∙ no_hyphen (decimal t.qty) (prices ++ (end ++ rest)) (digits_decimal own t.qty (omega (arith, is.qty_high)))
    (decimal_nonempty t.qty (omega (arith, is.qty_high)))

pub held-none : {before after : Left} {b : ℕ} → begins 45 before ≡ true
    → Reads (λ (b : ℕ). b ∷ []) (λ b. Unit {0}) Anything before b after
    → Reads held_text IsHeld Anything before None after
held-none {before = before} {after = after} {b = b} at byte = record {
  sound = λ rest e.
      let there = byte.sound rest e in
      let same = (Decides-eqb b 45).0 (sym (ap (begins 45) there) ∙ at) in
      there ∙ ap (λ b. Some (b ∷ rest)) same;
  finds = finds;
}
  where
    finds : (other : Option TupleValue) (rest : List ℕ) → IsHeld other → Anything rest
        → before ≡ Some (held_text other ++ rest) → (other ≡ None) × (after ≡ Some rest)
    finds None rest fits ends e = (refl, (byte.finds 45 rest tt tt e).1)
    finds (Some t) rest fits ends e = absurd (true≢false (sym at ∙ ap (begins 45) e ∙ tuple_begins t rest fits))

pub held-some : {before after : Left} {t : TupleValue} → begins 45 before ≡ false
    → Reads tuple_text IsTuple Anything before t after → Reads held_text IsHeld Anything before (Some t) after
held-some {before = before} {after = after} {t = t} at tuple = record {
  sound = tuple.sound;
  finds = finds;
}
  where
    finds : (other : Option TupleValue) (rest : List ℕ) → IsHeld other → Anything rest
        → before ≡ Some (held_text other ++ rest) → (other ≡ Some t) × (after ≡ Some rest)
    finds None rest fits ends e = absurd (true≢false (sym (ap (begins 45) e) ∙ at))
    finds (Some u) rest fits ends e = let found = tuple.finds u rest fits ends e in (ap Some found.0, found.1)
