-- The end of a line: five fields of text, by their bars.
use Rattle.std.proofs.Common.{◌≡◌, ℕ, ◌+◌, ◌<◌, Bool, true, false, cond, List, [], ◌∷◌, ◌++◌, length, take, drop, count_by, refl, sym, ap, ap₂, ◌∙◌, arith}
use Rattle.std.specs.List.{list_all, prefix_len}
use Rattle.std.proofs.lemmas.Bool.{and_parts}
use Rattle.std.proofs.lemmas.List.{get_or-take, take-append-drop}
use Rattle.std.proofs.lemmas.List.Folds.{length-prefix_len}
use Rattle.std.proofs.lemmas.List.Sums.{prefix_len_passes, list_all-from_AllPass}
use Rattle.tbl_text.specs.Field.{is_text_byte, is_text}
use Rattle.tbl_text.specs.LineCursor.{IsTail, IsEnd, EndsLine}
use Rattle.tbl_text.specs.Lines.{is_bar, EndsInBar, onto_first, pieces, fields_of}
use Rattle.tbl_text.proofs.Bars.{length-fields_of-ended, length-fields_of-open}

-- one more byte of text
texts-cond : (t : Bool) (b : ℕ) (parts : List (List ℕ)) → is_text_byte b ≡ true → list_all is_text parts ≡ true
    → list_all is_text (cond t ([] ∷ parts) (onto_first b parts)) ≡ true
texts-cond true b parts byte texts = texts
texts-cond false b [] byte texts = rw byte refl
texts-cond false b (part ∷ parts) byte texts = rw byte texts

-- the pieces of text are text
texts-pieces : (bytes : List ℕ) → is_text bytes ≡ true → list_all is_text (pieces 124 bytes) ≡ true
texts-pieces [] text = refl
texts-pieces (b ∷ bytes) text =
    let parts = and_parts (is_text_byte b) (is_text bytes) text in
    texts-cond (is_bar b) b (pieces 124 bytes) parts.0 (texts-pieces bytes parts.1)

-- five fields of text
five_texts : (bytes : List ℕ) → length (fields_of bytes) ≡ 5 → is_text bytes ≡ true → IsTail bytes
five_texts [] count text = absurd (omega arith)
five_texts (b ∷ bytes) count text = record { count = count; texts = texts-pieces (b ∷ bytes) text }

-- five fields, by the bars, where one of them ends the bytes
pub tail_ended : (bytes : List ℕ) (bars : ℕ) → EndsInBar bytes → bars ≡ count_by is_bar bytes → is_text bytes ≡ true
    → bars ≡ 5 → IsTail bytes
tail_ended bytes bars ended count text five =
    five_texts bytes (sym (length-fields_of-ended bytes ended) ∙ sym count ∙ five) text

-- the same, where no bar ends the bytes
pub tail_open : (bytes : List ℕ) (bars : ℕ) → ¬ EndsInBar bytes → bars ≡ count_by is_bar bytes → is_text bytes ≡ true
    → bars ≡ 4 → IsTail bytes
tail_open bytes bars open' count text four =
    five_texts bytes (sym (length-fields_of-open bytes open') ∙ ap (λ n. n + 1) (sym count ∙ four)) text

-- the text at the front is text
pub front_text : (bytes : List ℕ) → is_text (take (prefix_len is_text_byte bytes) bytes) ≡ true
front_text bytes =
    let len = prefix_len is_text_byte bytes in
    list_all-from_AllPass is_text_byte (take len bytes) (λ k d below.
    let within : k < len = omega (arith, length-prefix_len is_text_byte bytes) in
    rw (get_or-take len bytes k d within) (prefix_len_passes is_text_byte bytes k d within))

-- five fields and a line's end
pub ends_line : (old tail back new : List ℕ) (len : ℕ) → len ≡ prefix_len is_text_byte old → tail ≡ take len old
    → back ≡ drop len old → IsTail tail → IsEnd back new → EndsLine old new
ends_line old tail back new len count front rest fields end = record {
  tail = tail;
  back = back;
  cut = sym (take-append-drop len old) ∙ ap₂ (λ a b. a ++ b) (sym front) (sym rest);
  text = rw (front, count) (front_text old);
  fields = fields;
  end = end;
}
