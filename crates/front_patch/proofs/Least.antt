-- The least length, and how many units the base serves, with one more claim.
use Rattle.std.proofs.Common.{◌≡◌, ℕ, zero, suc, slice_get, ◌+◌, ◌≤◌, min, ◌∙◌, Bool, true, false, not, cond, List, [], ◌∷◌, ◌++◌, map, Option, Some, None, refl, sym, ap, arith, ⊎_elim, ◌⊎◌, subst}
use Rattle.std.specs.Prelude.{is_some, is_none}
use Rattle.std.specs.Option.{option_map}
use Rattle.std.proofs.lemmas.Bool.{true≢false, false≢true}
use Rattle.std.proofs.lemmas.List.{map-append}
use Rattle.std.proofs.lemmas.List.Sums.{fold-append}
use Rattle.cubit_base.specs.declared.delta.Delta.{Delta}
use Rattle.commit_log.specs.Log.{Terms, Stands}
use Rattle.commit_log.specs.declared.front.Front.{Front}
use Rattle.version_store.specs.Version.{Version}
use Rattle.front_patch.specs.Taken.{fallback_count}
use Rattle.front_patch.specs.Takes.{least_length, length_of}
use Rattle.std.proofs.lemmas.Option.{get_or_from_slice_get, slice_get_within, slice_get-get_or}
use Rattle.front_patch.proofs.Holding.{count-snoc}
use Rattle.front_patch.proofs.Slots.{none-at}
use mir.Val.{bool_byte}

pub none-byte : {Claim : Type 0} (claim : Option Claim) (none : Bool) → is_some claim ≡ not none →
    cond (is_none claim) 1 0 ≡ bool_byte none
none-byte None true is = refl
none-byte None false is = absurd (false≢true is)
none-byte (Some c) true is = absurd (true≢false is)
none-byte (Some c) false is = refl

pub fallbacks-more : {Claim : Type 0} (claims more : List (Option Claim)) (claim : Option Claim) (none : Bool)
    (count byte : ℕ) → more ≡ claims ++ claim ∷ [] → count ≡ fallback_count claims → is_some claim ≡ not none →
    byte ≡ bool_byte none → count + byte ≡ fallback_count more
fallbacks-more claims more claim none count byte are was is byte-is =
    omega (arith, was, byte-is, none-byte claim none is, count-snoc is_none claims claim, ap fallback_count are)

pub least-more : {Claim : Type 0} (shown : Claim → Version) (first : ℕ) (claims more : List (Option Claim))
    (claim : Option Claim) (before front now : ℕ) → more ≡ claims ++ claim ∷ [] →
    before ≡ least_length first (map (option_map shown) claims) → front ≡ length_of (option_map shown claim) →
    now ≡ min before front → now ≡ least_length first (map (option_map shown) more)
least-more shown first claims more claim before front now are was front-is is =
    is ∙ ap (λ n. min n front) was ∙ ap (min (least_length first (map (option_map shown) claims))) front-is
    ∙ sym (ap (λ c. least_length first (map (option_map shown) c)) are
    ∙ ap (least_length first) (map-append (option_map shown) claims (claim ∷ []))
    ∙ fold-append _ first (map (option_map shown) claims) (option_map shown claim ∷ []))

-- one of two fronts that stand
pub stands-one : (terms : Terms) (log : List Delta) (a b one : Front) → Stands terms log a → Stands terms log b →
    (one ≡ a) ⊎ (one ≡ b) → Stands terms log one
stands-one terms log a b one at-a at-b is =
    ⊎_elim (λ e. subst (Stands terms log) (sym e) at-a) (λ e. subst (Stands terms log) (sym e) at-b) is

pub byte-le : (b : Bool) (byte : ℕ) → byte ≡ bool_byte b → byte ≤ 1
byte-le true byte is = omega (arith, is)
byte-le false byte is = omega (arith, is)

least-first : (first : ℕ) (versions : List (Option Version)) → least_length first versions ≤ first
least-first first [] = omega arith
least-first first (v ∷ versions) =
    omega (arith, least-first (min first (length_of v)) versions)

pub least-claims : {Claim : Type 0} (shown : Claim → Version) (first : ℕ) (claims : List (Option Claim)) →
    least_length first (map (option_map shown) claims) ≤ first
least-claims shown first claims = least-first first (map (option_map shown) claims)

get-tail : {X : Type 0} (x : X) (xs : List X) (i : ℕ) (y : X) → slice_get (x ∷ xs) (suc i) ≡ Some y
    → slice_get xs i ≡ Some y
get-tail x xs i y at =
    let within = slice_get_within (x ∷ xs) (suc i) y at in
    slice_get-get_or xs i y (omega (arith, within)) ∙ ap Some (get_or_from_slice_get (x ∷ xs) (suc i) y y at)

-- no version is shorter
pub least-at : {Claim : Type 0} (shown : Claim → Version) (first : ℕ) (claims : List (Option Claim)) (i : ℕ)
    (claim : Option Claim) → slice_get claims i ≡ Some claim →
    least_length first (map (option_map shown) claims) ≤ length_of (option_map shown claim)
least-at shown first [] i claim at = none-at i claim at
least-at shown first (c ∷ claims) zero claim at =
    let is : c ≡ claim = get_or_from_slice_get (c ∷ claims) 0 claim claim at in
    omega (
      arith,
      least-first (min first (length_of (option_map shown c))) (map (option_map shown) claims),
      ap (λ o. length_of (option_map shown o)) is,
    )
least-at shown first (c ∷ claims) (suc i) claim at =
    least-at shown (min first (length_of (option_map shown c))) claims i claim (get-tail c claims i claim at)
