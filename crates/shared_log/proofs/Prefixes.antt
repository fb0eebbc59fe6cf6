-- Fronts of one log.
use Rattle.std.proofs.Common.{◌≡◌, ℕ, ◌≤◌, max, Bool, true, false, cond, List, [], ◌∷◌, ◌++◌, length, get_or, take, drop, ltb, sym, refl, ap, ◌∙◌, arith, append_assoc, append-nil, length-append, ltb-true}
use Rattle.std.proofs.lemmas.List.{take-append-drop, length-take-le}
use Rattle.std.proofs.lemmas.Bool.Decides.{nat_tests}
use Rattle.cubit_base.specs.declared.delta.Delta.{Delta}
use Rattle.log_core.specs.Chain.{delta_count}
use Rattle.commit_log.specs.Handle.{Begins}
use Rattle.shared_log.specs.Fronts.{IsFront, longer}

pub begins-all : (f : List Delta) → Begins f f
begins-all f = ([], sym (append-nil f))

pub begins-none : (f : List Delta) → Begins [] f
begins-none f = (f, refl)

pub front-length : (h f : List Delta) (n : ℕ) → IsFront h f n → n ≤ length h
front-length h f n i =
    let a = i.count in
    omega (arith, length-append f i.begins.0, ap (λ (z : List Delta). length z) i.begins.1)

pub front-take : (h : List Delta) (n : ℕ) → n ≤ length h → IsFront h (take n h) n
front-take h n le = record {
  begins = (drop n h, sym (take-append-drop n h));
  count = length-take-le n h le;
}

-- a front of a log is one of a longer log
pub front-grows : (h f z rest : List Delta) (n : ℕ) → IsFront h f n → z ≡ h ++ rest → IsFront z f n
front-grows h f z rest n i e = record {
  begins = (
    i.begins.0 ++ rest,
    e ∙ ap (λ (x : List Delta). x ++ rest) i.begins.1 ∙ append_assoc f i.begins.0 rest,
  );
  count = i.count;
}

-- of two fronts of one log the one that is no longer begins the other
begins-shorter : (f e a b : List Delta) → f ++ a ≡ e ++ b → length f ≤ length e → Begins f e
begins-shorter [] e a b is le = (e, refl)
begins-shorter (x ∷ f) [] a b is le = absurd (omega arith)
begins-shorter (x ∷ f) (y ∷ e) a b is le =
    let t = begins-shorter f e a b (ap (drop 1) is) (omega arith) in
    let same : y ≡ x = sym (ap (λ (l : List Delta). get_or l 0 x) is) in
    (t.0, λ i. same i ∷ t.1 i)

pub fronts-begin : (h f e : List Delta) (n m : ℕ) → IsFront h f n → IsFront h e m → n ≤ m → Begins f e
fronts-begin h f e n m i j le =
    let a = i.count in let b = j.count in
    begins-shorter f e i.begins.0 j.begins.0 (sym i.begins.1 ∙ j.begins.1) (omega arith)

-- a log has one front of each length
pub one-front : (h f e : List Delta) (n : ℕ) → IsFront h f n → IsFront h e n → f ≡ e
one-front h f e n i j = go b.0 b.1
  where
    b : Begins f e
    b = fronts-begin h f e n n i j (omega arith)

    go : (rest : List Delta) → e ≡ f ++ rest → f ≡ e
    go [] is = sym (append-nil f) ∙ sym is
    go (x ∷ rest) is =
        let c = i.count in let d = j.count in
        absurd (omega (arith, length-append f (x ∷ rest), ap (λ (z : List Delta). length z) is))

module _ (h f e : List Delta) (n m : ℕ) (i : IsFront h f n) (j : IsFront h e m) where
  pub longer-front : IsFront h (longer f e) (max n m)
  longer-front = go (ltb (delta_count f) (delta_count e)) refl
    where
      go : (b : Bool) → ltb (delta_count f) (delta_count e) ≡ b → IsFront h (cond b e f) (max n m)
      go true is = record {
        begins = j.begins;
        count =
            let a = i.count in let b = j.count in let c = ltb-true (delta_count f) (delta_count e) is in omega arith;
      }
      go false is = record {
        begins = i.begins;
        count = let a = i.count in let b = j.count in grind (arith, nat_tests);
      }

  pub longer-begins : Begins f (longer f e)
  longer-begins = fronts-begin h f (longer f e) n (max n m) i longer-front (omega arith)

  pub longer-met : Begins e (longer f e)
  longer-met = fronts-begin h e (longer f e) m (max n m) j longer-front (omega arith)
