-- Groups put into numbers by or.
use Rattle.std.proofs.Common.{◌≡◌, ℕ, ◌+◌, ◌-◌, ◌/◌, ◌^◌, ◌<◌, ◌≤◌, ◌∙◌, ◌⊎◌, List, [], ◌++◌, length, get_or, set, replicate, refl, sym, ap, subst, arith, inl, inr}
use Rattle.std.specs.Prelude.{bit_or}
use Rattle.std.specs.Int.Bits.{or_zero_r}
use Rattle.std.proofs.Math.ListN.{length-set}
use Rattle.std.proofs.lemmas.Bool.{cases_lt, lt-ltb, le-ltb}
use Rattle.std.proofs.lemmas.List.{get_or_append_left, get_or-append_right, get_or_past, get_or-set_same, get_or-set_other, get_or-replicate, length-replicate}
use Rattle.wah_words.specs.Word.{run_group, run_count}
use Rattle.fence_window.specs.Ors.{OrsFrom, OrsAt}

-- or with 0
pub or_nothing : (n : ℕ) → n ≡ bit_or n 0
or_nothing n = sym (or_zero_r n)

-- behind the last number nothing changes
pub ors_past : (out : List ℕ) (place : ℕ) (groups : List ℕ) → length out ≤ place → OrsAt out out place groups
ors_past out place groups past = record {
  long = refl;
  before = λ i _. refl;
  each = λ i within. absurd (omega arith);
}

-- no groups
pub ors_none : (out : List ℕ) (place : ℕ) → OrsAt out out place []
ors_none out place = record {
  long = refl;
  before = λ i _. refl;
  each = λ i within. or_nothing (get_or out (place + i) 0);
}

-- groups behind groups
pub ors_append : (old mid new : List ℕ) (place next : ℕ) (a b : List ℕ) → OrsAt old mid place a
    → next ≡ place + length a → OrsAt mid new next b → OrsAt old new place (a ++ b)
ors_append old mid new place next a b first at second = record {
  long = second.long ∙ first.long;
  before = λ i below. second.before i (omega (arith, at)) ∙ first.before i below;
  each = λ i within.
      elim (cases_lt i (length a)) [
        | inl here ↦
            second.before (place + i) (omega (arith, at))
            ∙ first.each i within
            ∙ ap (bit_or (get_or old (place + i) 0)) (sym (get_or_append_left a b 0 i here))
        | inr beyond ↦
            let k : next + (i - length a) ≡ place + i = omega (arith, at) in
            let Q = λ (n : ℕ). get_or new n 0 ≡ bit_or (get_or mid n 0) (get_or b (i - length a) 0) in
            subst Q k (second.each (i - length a) (omega (arith, k, first.long)))
            ∙ ap (λ n. bit_or n (get_or b (i - length a) 0))
            (first.each i within
            ∙ ap (bit_or (get_or old (place + i) 0)) (get_or_past a i 0 beyond)
            ∙ sym (or_nothing (get_or old (place + i) 0)))
            ∙ ap (bit_or (get_or old (place + i) 0)) (sym (get_or-append_right a b (length a) i 0 refl beyond))
      ];
}

-- once the numbers are full, further groups change nothing
pub ors_full : (old out : List ℕ) (place at : ℕ) (a b : List ℕ) → OrsAt old out place a → at ≡ place + length a
    → length out ≤ at → OrsAt old out place (a ++ b)
ors_full old out place at a b is here full =
    ors_append old out out place at a b is here (ors_past out at b full)

-- from the first number on
pub ors_from : (old new groups : List ℕ) → OrsAt old new 0 groups → OrsFrom old new groups
ors_from old new groups is = record {
  long = is.long;
  each = λ i within.
      let here : 0 + i ≡ i = omega arith in
      let Q = λ (k : ℕ). get_or new k 0 ≡ bit_or (get_or old k 0) (get_or groups i 0) in
      subst Q here (is.each i (omega arith));
}

-- a run, number by number
pub ors_run : (old new : List ℕ) (place count group : ℕ) → length new ≡ length old
    → ((i : ℕ) → i < place → get_or new i 0 ≡ get_or old i 0)
    → ((i : ℕ) → place ≤ i → i < place + count → i < length old → get_or new i 0 ≡ bit_or (get_or old i 0) group)
    → ((i : ℕ) → place + count ≤ i → get_or new i 0 ≡ get_or old i 0)
    → OrsAt old new place (replicate count group)
ors_run old new place count group long before within after = record {
  long = long;
  before = before;
  each = λ i inside.
      elim (cases_lt i count) [
        | inl here ↦
            within (place + i) (omega arith) (omega arith) inside
            ∙ ap (bit_or (get_or old (place + i) 0)) (sym (get_or-replicate count i group 0 here))
        | inr beyond ↦
            after (place + i) (omega arith)
            ∙ or_nothing (get_or old (place + i) 0)
            ∙ ap (bit_or (get_or old (place + i) 0))
            (sym (get_or_past (replicate count group) i 0 (omega (arith, length-replicate count group))))
      ];
}

-- one number changes where the run is one group, or adds nothing
pub ors_run-set : (out : List ℕ) (place count group : ℕ) → place < length out → (count ≡ 1) ⊎ (group ≡ 0)
    → OrsAt out (set out place (bit_or (get_or out place 0) group)) place (replicate count group)
ors_run-set out place count group room kind =
    let value = bit_or (get_or out place 0) group in
    ors_run out (set out place value) place count group (simp length-set)
    (λ i below. get_or-set_other out place i value 0 (λ same. omega arith))
    (λ i past inside _.
    elim (cases_lt place i) [
      | inl beyond ↦
          elim kind [
            | inl one ↦ absurd (omega arith)
            | inr none ↦
                get_or-set_other out place i value 0 (λ same. omega arith)
                ∙ or_nothing (get_or out i 0)
                ∙ ap (bit_or (get_or out i 0)) (sym none)
          ]
      | inr upto ↦
          let here : place ≡ i = omega arith in
          let P = λ (k : ℕ). get_or (set out place value) k 0 ≡ bit_or (get_or out k 0) group in
          subst P here (get_or-set_same out place value 0 room)
    ])
    (λ i past.
    elim (cases_lt place i) [
      | inl beyond ↦ get_or-set_other out place i value 0 (λ same. omega arith)
      | inr upto ↦
          elim kind [
            | inl one ↦ absurd (omega arith)
            | inr none ↦
                let here : place ≡ i = omega arith in
                let P = λ (k : ℕ). get_or (set out place value) k 0 ≡ get_or out k 0 in
                subst P here
                (get_or-set_same out place value 0 room
                ∙ ap (bit_or (get_or out place 0)) none
                ∙ sym (or_nothing (get_or out place 0)))
          ]
    ])

-- a word below the fills of true rows is one group, or has no true row
pub plain_run : (word : ℕ) → word < 3221225472 → (run_count word ≡ 1) ⊎ (run_group word ≡ 0)
plain_run word below =
    elim (cases_lt word (2 ^ 31)) [
      | inl low ↦ inl (rw (lt-ltb word (2 ^ 31) low) refl)
      | inr high ↦
          let head : word / 2 ^ 30 ≡ 2 = omega arith in
          inr (rw (le-ltb word (2 ^ 31) high) (rw head refl))
    ]
