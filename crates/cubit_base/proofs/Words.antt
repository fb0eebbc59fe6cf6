-- The words of tuples.
use Rattle.std.proofs.Common.{◌≡◌, ℕ, ◌≤◌, refl, arith}
use Rattle.cubit_base.specs.Tuple.{TupleValue, IsTuple, flag_number, status_number}
use Rattle.cubit_base.specs.Word.{tuple_word}
use Rattle.cubit_base.specs.declared.tuple.Flag.{Flag}
use Rattle.cubit_base.specs.declared.tuple.Flag.TheVariants.{A, N, R}
use Rattle.cubit_base.specs.declared.tuple.LineStatus.{LineStatus}
use Rattle.cubit_base.specs.declared.tuple.LineStatus.TheVariants.{F, O}

flag-low : (f : Flag) → flag_number f ≤ 2
flag-low A = omega arith
flag-low N = omega arith
flag-low R = omega arith

flag-from_number : (f g : Flag) → flag_number f ≡ flag_number g → f ≡ g
flag-from_number A A is = refl
flag-from_number A N is = absurd (omega arith)
flag-from_number A R is = absurd (omega arith)
flag-from_number N A is = absurd (omega arith)
flag-from_number N N is = refl
flag-from_number N R is = absurd (omega arith)
flag-from_number R A is = absurd (omega arith)
flag-from_number R N is = absurd (omega arith)
flag-from_number R R is = refl

status-low : (s : LineStatus) → status_number s ≤ 1
status-low F = omega arith
status-low O = omega arith

status-from_number : (s t : LineStatus) → status_number s ≡ status_number t → s ≡ t
status-from_number F F is = refl
status-from_number F O is = absurd (omega arith)
status-from_number O F is = absurd (omega arith)
status-from_number O O is = refl

-- a word tells its tuple
pub tuple-from_word : (a b : TupleValue) → IsTuple a → IsTuple b → tuple_word a ≡ tuple_word b → a ≡ b
tuple-from_word a b is_a is_b same =
    joined (λ p d q c t f s. record { price = p; day = d; qty = q; disc = c; tax = t; flag = f; status = s })
  where
    status : status_number a.status ≡ status_number b.status
    status = omega (arith, same, flag-low a.flag, flag-low b.flag, status-low a.status, status-low b.status)

    flag : flag_number a.flag ≡ flag_number b.flag
    flag = omega (arith, same, status, flag-low a.flag, flag-low b.flag)

    tax : a.tax ≡ b.tax
    tax = omega (arith, same, status, flag)

    disc : a.disc ≡ b.disc
    disc = omega (arith, same, status, flag, tax)

    qty : a.qty ≡ b.qty
    qty = omega (arith, same, status, flag, tax, disc)

    day : a.day ≡ b.day
    day = omega (arith, same, status, flag, tax, disc, qty)

    price : a.price ≡ b.price
    price = omega (arith, same, status, flag, tax, disc, qty, day)

    joined : (f : ℕ → ℕ → ℕ → ℕ → ℕ → Flag → LineStatus → TupleValue)
        → f a.price a.day a.qty a.disc a.tax a.flag a.status ≡ f b.price b.day b.qty b.disc b.tax b.flag b.status
    joined f =
        let same_flag = flag-from_number a.flag b.flag flag in
        let same_status = status-from_number a.status b.status status in
        cc (price, day, qty, disc, tax)
