-- What the test and the order of keys say.
use Rattle.std.proofs.Common.{◌≡◌, ◌≢◌, true, false, refl, arith}
use Rattle.std.specs.Cmp.{IsTotalOrder}
use Rattle.std.specs.declared.cmp.Ordering.{Ordering}
use Rattle.std.specs.declared.cmp.Ordering.TheVariants.{Less, Equal, Greater}
use Rattle.std.specs.Ordering.{is_lt}
use Rattle.std.proofs.lemmas.Bool.{false_from_ne_true}
use Rattle.std.proofs.lemmas.Cmp.{nat_cmp_total, on_total, then_total, tied_itself}
use Rattle.cubit_base.specs.Key.{KeyValue, same_key, key_cmp, key_is_less}

-- keys that the test takes for one are equal
pub same_key-true : (a b : KeyValue) → same_key a b ≡ true → a ≡ b
same_key-true a b same = grind arith

-- equal keys pass the test
pub same_key-same : (a b : KeyValue) → a ≡ b → same_key a b ≡ true
same_key-same a b is = grind arith

-- other keys do not
pub same_key-other : (a b : KeyValue) → a ≢ b → same_key a b ≡ false
same_key-other a b differ = false_from_ne_true (same_key a b) (λ same. differ (same_key-true a b same))

-- keys stand in one line
pub key_cmp-total : IsTotalOrder key_cmp
key_cmp-total =
    then_total (on_total (λ (k : KeyValue). k.order) nat_cmp_total) (on_total (λ (k : KeyValue). k.line) nat_cmp_total)

is_lt-true : (o : Ordering) → is_lt o ≡ true → o ≡ Less
is_lt-true Less less = refl
is_lt-true Equal less = absurd cc
is_lt-true Greater less = absurd cc

-- no key is less than itself
pub key_is_less-self : (k : KeyValue) → key_is_less k k ≡ false
key_is_less-self k = rw (tied_itself key_cmp-total k) refl

-- a key below another is below what is above that
pub key_is_less-trans : (a b c : KeyValue) → key_is_less a b ≡ true → key_is_less b c ≡ true → key_is_less a c ≡ true
key_is_less-trans a b c ab bc =
    rw (key_cmp-total.trans a b c (is_lt-true (key_cmp a b) ab) (is_lt-true (key_cmp b c) bc)) refl
