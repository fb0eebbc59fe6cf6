-- Loops that write one piece of a text after another.
use Rattle.std.proofs.Common.{◌≡◌, ℕ, List, [], ◌++◌, append_assoc, sym, ap, ◌∙◌}
use Rattle.std.proofs.lemmas.List.{append-nil}

-- a piece more is written, and the rest completes the whole as before
pub writes_more : (old new piece rest left whole : List ℕ) → new ≡ old ++ piece → left ≡ piece ++ rest
    → old ++ left ≡ whole → new ++ rest ≡ whole
writes_more old new piece rest left whole wrote cut keeps =
    ap (λ text. text ++ rest) wrote ∙ append_assoc old piece rest ∙ ap (λ text. old ++ text) (sym cut) ∙ keeps

-- nothing is left
pub writes_all : (old left whole : List ℕ) → left ≡ [] → old ++ left ≡ whole → old ≡ whole
writes_all old left whole nothing keeps = sym (append-nil old) ∙ ap (λ text. old ++ text) (sym nothing) ∙ keeps

-- three pieces one behind another
pub writes_three : (old a b c first second third : List ℕ) → first ≡ old ++ a → second ≡ first ++ b
    → third ≡ second ++ c → third ≡ old ++ (a ++ (b ++ c))
writes_three old a b c first second third one two three =
    three ∙ ap (λ text. text ++ c) (two ∙ ap (λ text. text ++ b) one ∙ append_assoc old a b)
    ∙ append_assoc old (a ++ b) c ∙ ap (λ text. old ++ text) (append_assoc a b c)
