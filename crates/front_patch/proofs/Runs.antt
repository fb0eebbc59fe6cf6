-- Units in a row.
use Rattle.std.proofs.Common.{◌≡◌, ℕ, zero, suc, ◌+◌, ◌-◌, ◌<◌, ◌≤◌, length, get_or, slice_get, Some, Contains, length-append, List, [], ◌∷◌, ◌++◌, ap, ◌∙◌, sym, refl, arith, append_assoc, append-nil}
use Rattle.std.proofs.lemmas.List.{get_or-append-add}
use Rattle.std.proofs.lemmas.Option.{slice_get-get_or}
use Rattle.unit_version.specs.declared.unit.Unit.{Unit as IndexUnit}
use Rattle.unit_version.specs.declared.unit.Unit.TheVariants.{Page}
use Rattle.front_patch.specs.Planned.{run_of}

-- one more at the end
pub run-snoc : (kind : ℕ → IndexUnit) (first n : ℕ) →
    run_of kind first (n + 1) ≡ run_of kind first n ++ kind (first + n) ∷ []
unfolding run_of
run-snoc kind first zero =
    let e : 0 + 1 ≡ suc 0 = omega arith in
    ap (run_of kind first) e ∙ ap (λ n. kind n ∷ []) (omega arith)
run-snoc kind first (suc n) =
    let e : suc n + 1 ≡ suc (n + 1) = omega arith in
    ap (run_of kind first) e
    ∙ ap (λ units. kind first ∷ units)
    (run-snoc kind (first + 1) n ∙ ap (λ m. run_of kind (first + 1) n ++ kind m ∷ []) (omega arith))

-- none
pub run-none : (kind : ℕ → IndexUnit) (first n : ℕ) (units : List IndexUnit) → n ≡ 0
    → units ≡ units ++ run_of kind first n
unfolding run_of
run-none kind first n units none =
    sym (append-nil units) ∙ ap (λ m. units ++ run_of kind first m) (sym none)

-- one more, behind others
pub run-more : (kind : ℕ → IndexUnit) (first n m : ℕ) (before units more : List IndexUnit) (unit : IndexUnit) →
    units ≡ before ++ run_of kind first n → more ≡ units ++ unit ∷ [] → unit ≡ kind (first + n) → m ≡ n + 1 →
    more ≡ before ++ run_of kind first m
run-more kind first n m before units more unit are is last next =
    is ∙ ap (λ u. u ++ unit ∷ []) are ∙ append_assoc before (run_of kind first n) (unit ∷ [])
    ∙ ap (λ u. before ++ (run_of kind first n ++ u ∷ [])) last ∙ ap (λ u. before ++ u) (sym (run-snoc kind first n))
    ∙ ap (λ k. before ++ run_of kind first k) (sym next)

pub length-run : (kind : ℕ → IndexUnit) (first n : ℕ) → length (run_of kind first n) ≡ n
unfolding run_of
length-run kind first zero = refl
length-run kind first (suc n) = ap suc (length-run kind (first + 1) n)

pub get-run : (kind : ℕ → IndexUnit) (first n k : ℕ) (d : IndexUnit) → k < n →
    get_or (run_of kind first n) k d ≡ kind (first + k)
unfolding run_of
get-run kind first zero k d within = absurd (omega (arith, within))
get-run kind first (suc n) zero d within = ap kind (omega arith)
get-run kind first (suc n) (suc k) d within = get-run kind (first + 1) n k d (omega (arith, within))
    ∙ ap kind (omega arith)

-- a page behind the bitvectors
pub get-page : (before : List IndexUnit) (pages page : ℕ) → page < pages →
    slice_get (before ++ run_of Page 0 pages) (length (before ++ run_of Page 0 pages) - pages + page) ≡ Some (Page page)
get-page before pages page within =
    let all = before ++ run_of Page 0 pages in
    let long = length-append before (run_of Page 0 pages) in
    let run = length-run Page 0 pages in
    let at : length all - pages + page ≡ length before + page = omega (arith, long, run) in
    ap (slice_get all) at
    ∙ slice_get-get_or all (length before + page) (Page page) (omega (arith, long, run, within))
    ∙ ap Some (get_or-append-add before (run_of Page 0 pages) page (Page page) ∙ get-run Page 0 pages page
    (Page page) within
    ∙ ap Page (omega arith))

pub contains-run : (kind : ℕ → IndexUnit) (first n k : ℕ) → first ≤ k → k < first + n
    → Contains (run_of kind first n) (kind k)
contains-run kind first n k low within =
    let at : first + (k - first) ≡ k = omega (arith, low) in (
      k - first,
      omega (arith, low, within, length-run kind first n),
      get-run kind first n (k - first) (kind k) (omega (arith, low, within)) ∙ ap kind at,
    )
