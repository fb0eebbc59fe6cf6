-- The words of a run that begin with an option.
use Rattle.std.proofs.Common.{◌≡◌, ◌∙◌, ℕ, ◌-◌, ◌≤◌, List, [], ◌∷◌, length, map, take, drop, get_or, sym, ap, arith}
use Rattle.std.specs.Option.{option_and_then}
use Rattle.std.proofs.lemmas.List.{take_all}
use Rattle.tbl_text.specs.Field.{integer_value}
use Rattle.cubit_cli.specs.Words.{Options, with_option, run_of}

-- a name, a number, and the words behind them
pub run_of-option : {X : Type 0} (f : X → List ℕ) (words : List X) (name number : X) (o : Options)
    → 3 ≤ length words → name ≡ get_or words 0 name → number ≡ get_or words 1 number
    → run_of (map f words) o
    ≡ option_and_then (run_of (map f (take (length words - 2) (drop 2 words))))
    (with_option (f name) (integer_value (f number)) o)
run_of-option f [] name number o long is_name is_number = absurd (omega (arith, long))
run_of-option f (a ∷ []) name number o long is_name is_number = absurd (omega (arith, long))
run_of-option f (a ∷ b ∷ []) name number o long is_name is_number = absurd (omega (arith, long))
run_of-option f (a ∷ b ∷ c ∷ words) name number o long is_name is_number =
    let rest : take (length (a ∷ b ∷ c ∷ words) - 2) (c ∷ words) ≡ c ∷ words =
    take_all (length (a ∷ b ∷ c ∷ words) - 2) (c ∷ words) (omega arith) in
    ap (λ n. option_and_then (run_of (f c ∷ map f words)) (with_option (f n) (integer_value (f b)) o)) (sym is_name)
    ∙ ap (λ n. option_and_then (run_of (f c ∷ map f words)) (with_option (f name) (integer_value (f n)) o))
    (sym is_number)
    ∙ ap (λ w. option_and_then (run_of (map f w)) (with_option (f name) (integer_value (f number)) o))
    (sym rest)
