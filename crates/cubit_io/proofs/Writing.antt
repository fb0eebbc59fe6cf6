-- Bytes that are taken piece by piece.
use Rattle.std.proofs.Common.{◌≡◌, ℕ, ◌+◌, ◌-◌, ◌<◌, ◌≤◌, ◌∙◌, List, ◌∷◌, ◌++◌, length, take, drop, get_or, min, Option, Some, None, sym, ap, arith, append_assoc, add-one, drop-cons, length-drop}
use Rattle.std.specs.Prelude.{flat_map}
use Rattle.std.proofs.Math.Seq.{take-add, take-append-add, take-length}
use Rattle.std.proofs.lemmas.List.{take_all, take_min, take-append-le, take-append-drop}
use Rattle.std.proofs.lemmas.List.Concat.{flat_map-append}
use Rattle.cubit_io.specs.Count.{Rose}
use Rattle.cubit_io.specs.Pieces.{GrewBy, GrewByPrefix}

-- a front was taken, and then a front of all that was left
pub grew_by_next : (before between after : Option (List ℕ)) (bytes : List ℕ) (m n : ℕ)
    → GrewBy before between (take m bytes) → GrewBy between after (take n (take (length bytes - m) (drop m bytes)))
    → GrewBy before after (take (m + n) bytes)
grew_by_next None between after bytes m n first next = tt
grew_by_next (Some had) None after bytes m n first next = cc
grew_by_next (Some had) (Some has) after bytes m n first next =
    let rest = take_all (length bytes - m) (drop m bytes) (omega (arith, length-drop m bytes)) in
    rw (take-add m n bytes, ← append_assoc) (cc)

-- what was taken whole was taken as far as it goes
pub GrewByPrefix-whole : (before after : Option (List ℕ)) (text : List ℕ)
    → GrewBy before after text → GrewByPrefix before after text
GrewByPrefix-whole None after text whole = tt
GrewByPrefix-whole (Some had) after text whole =
    (length text, whole ∙ ap (λ t. Some (had ++ t)) (sym (take-length text)))

-- a front of what follows a text that was taken whole, whatever comes after it
pub GrewByPrefix-then : (before between after : Option (List ℕ)) (xs ys zs : List ℕ)
    → GrewBy before between xs → GrewByPrefix between after ys → GrewByPrefix before after (xs ++ (ys ++ zs))
GrewByPrefix-then None between after xs ys zs first next = tt
GrewByPrefix-then (Some had) None after xs ys zs first next = cc
GrewByPrefix-then (Some had) (Some has) after xs ys zs first (n, next) =
    let m = min n (length ys) in
    let within : m ≤ length ys = omega arith in
    let part = take-append-le m ys zs within ∙ take_min n ys in
    let front = take-append-add xs (ys ++ zs) m ∙ ap (λ t. xs ++ t) part in
    (length xs + m, rw front (rw (← append_assoc) (cc)))

-- a piece stands behind those before it
pub flat_map-at : {X A : Type 0} (f : X → List A) (xs : List X) (i : ℕ) (d : X) → i < length xs
    → flat_map f xs ≡ flat_map f (take i xs) ++ (f (get_or xs i d) ++ flat_map f (drop (i + 1) xs))
flat_map-at f xs i d within =
    let cut : take i xs ++ (get_or xs i d ∷ drop (i + 1) xs) ≡ xs =
    rw (add-one, ← drop-cons xs i d) (take-append-drop i xs) in
    ap (λ l. flat_map f l) (sym cut) ∙ flat_map-append f (take i xs) (get_or xs i d ∷ drop (i + 1) xs)

-- a rise after others is a rise over both
pub Rose-later : (before between after : ℕ) → before ≤ between → Rose between after → Rose before after
Rose-later before between after grew rose = omega arith
