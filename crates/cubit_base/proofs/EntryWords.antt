-- The words of entries.
use Rattle.std.proofs.Common.{◌≡◌, ℕ, List, get_or, Option, Some, None, IfSome, refl, ap, arith}
use Rattle.cubit_base.specs.Tuple.{TupleValue, IsTuple}
use Rattle.cubit_base.specs.Word.{word_of}
use Rattle.cubit_base.specs.declared.entry.Entry.{Entry}
use Rattle.cubit_base.specs.EntryWords.{FitsWords, entry_words}
use Rattle.cubit_base.proofs.Words.{tuple-from_word}

same-tuple : (a b : Option TupleValue) → IfSome a IsTuple → IfSome b IsTuple → word_of a ≡ word_of b
    → a ≡ b
same-tuple None None fa fb e = refl
same-tuple None (Some y) fa fb e = absurd (omega arith)
same-tuple (Some x) None fa fb e = absurd (omega arith)
same-tuple (Some x) (Some y) fa fb e = ap Some (tuple-from_word x y fa fb e)

pub entry-from_words : (a b : Entry) → FitsWords a → FitsWords b → entry_words a ≡ entry_words b → a ≡ b
unfolding entry_words
entry-from_words a b fa fb e =
    let w0 = ap (λ (xs : List ℕ). get_or xs 0 0) e in
    let w1 = ap (λ (xs : List ℕ). get_or xs 1 0) e in
    let w2 = ap (λ (xs : List ℕ). get_or xs 2 0) e in
    let w3 = ap (λ (xs : List ℕ). get_or xs 3 0) e in
    let oa = fa.order in let ob = fb.order in
    let sa = fa.seq_high in let sb = fb.seq_high in
    let ra = fa.rows in let rb = fb.rows in
    let la = fa.key.line_high in let lb = fb.key.line_high in
    let order : a.delta.key.order ≡ b.delta.key.order = omega arith in
    let row : a.delta.row ≡ b.delta.row = omega arith in
    let seq : a.seq ≡ b.seq = omega arith in
    let rows : a.rows ≡ b.rows = omega arith in
    let line : a.delta.key.line ≡ b.delta.key.line = omega arith in
    let author : a.delta.author ≡ b.delta.author = omega arith in
    let before = same-tuple a.delta.before b.delta.before fa.before fb.before w2 in
    let after = same-tuple a.delta.after b.delta.after fa.after fb.after w3 in
    λ i. record {
      seq = seq i;
      rows = rows i;
      delta = record {
        author = author i;
        row = row i;
        key = record { order = order i; line = line i };
        before = before i;
        after = after i;
      };
    }
