-- Tuples and their words.
use Rattle.std.proofs.Common.{◌≡◌, ℕ, ◌^◌, ◌/◌, ◌%◌, ◌≤◌, refl, sym, ap, ◌∙◌, arith}
use Rattle.cubit_base.specs.Tuple.{TupleValue, IsTuple, flag_number, status_number}
use Rattle.cubit_base.specs.Word.{tuple_word}
use Rattle.cubit_base.specs.declared.tuple.Flag.{Flag}
use Rattle.cubit_base.specs.declared.tuple.Flag.TheVariants.{A, N, R}
use Rattle.cubit_base.specs.declared.tuple.LineStatus.{LineStatus}
use Rattle.cubit_base.specs.declared.tuple.LineStatus.TheVariants.{F, O}
use Rattle.unit_version.specs.Packed.{unpacked, flag_of, status_of, IsPacked}

flag-low : (f : Flag) → flag_number f ≤ 2
flag-low A = omega arith
flag-low N = omega arith
flag-low R = omega arith

status-low : (s : LineStatus) → status_number s ≤ 1
status-low F = omega arith
status-low O = omega arith

flag_of-number : (f : Flag) → flag_of (flag_number f) ≡ f
flag_of-number A = refl
flag_of-number N = refl
flag_of-number R = refl

status_of-number : (s : LineStatus) → status_of (status_number s) ≡ s
status_of-number F = refl
status_of-number O = refl

-- a tuple comes back from its word
pub unpacked-tuple_word : (t : TupleValue) → IsTuple t → unpacked (tuple_word t) ≡ t
unpacked-tuple_word t is =
    joined (λ p d q c t f s. record { price = p; day = d; qty = q; disc = c; tax = t; flag = f; status = s })
  where
    flag_bound : flag_number t.flag ≤ 2
    flag_bound = flag-low t.flag

    status_bound : status_number t.status ≤ 1
    status_bound = status-low t.status

    price : tuple_word t / 2 % 2 ^ 27 ≡ t.price
    price = omega (arith, flag_bound, status_bound)

    day : tuple_word t / 2 ^ 28 % 2 ^ 12 ≡ t.day
    day = omega (arith, flag_bound, status_bound)

    qty : tuple_word t / 2 ^ 40 % 2 ^ 6 ≡ t.qty
    qty = omega (arith, flag_bound, status_bound)

    disc : tuple_word t / 2 ^ 46 % 2 ^ 4 ≡ t.disc
    disc = omega (arith, flag_bound, status_bound)

    tax : tuple_word t / 2 ^ 50 % 2 ^ 4 ≡ t.tax
    tax = omega (arith, flag_bound, status_bound)

    flag : tuple_word t / 2 ^ 54 % 4 ≡ flag_number t.flag
    flag = omega (arith, flag_bound, status_bound)

    status : tuple_word t / 2 ^ 56 % 2 ≡ status_number t.status
    status = omega (arith, flag_bound, status_bound)

    joined : (f : ℕ → ℕ → ℕ → ℕ → ℕ → Flag → LineStatus → TupleValue)
        → f (tuple_word t / 2 % 2 ^ 27) (tuple_word t / 2 ^ 28 % 2 ^ 12) (tuple_word t / 2 ^ 40 % 2 ^ 6)
        (tuple_word t / 2 ^ 46 % 2 ^ 4) (tuple_word t / 2 ^ 50 % 2 ^ 4)
        (flag_of (tuple_word t / 2 ^ 54 % 4)) (status_of (tuple_word t / 2 ^ 56 % 2))
        ≡ f t.price t.day t.qty t.disc t.tax t.flag t.status
    joined f =
        let same_flag : flag_of (tuple_word t / 2 ^ 54 % 4) ≡ t.flag = ap flag_of flag ∙ flag_of-number t.flag in
        let same_status : status_of (tuple_word t / 2 ^ 56 % 2) ≡ t.status =
        ap status_of status ∙ status_of-number t.status in
        rw (price, day, qty, disc, tax, same_flag, same_status) refl

-- and its word is of a tuple
pub IsPacked-tuple_word : (t : TupleValue) → IsTuple t → IsPacked (tuple_word t)
IsPacked-tuple_word t is = record {
  is = ap tuple_word (sym (unpacked-tuple_word t is));
  tuple = rw (unpacked-tuple_word t is) is;
}
