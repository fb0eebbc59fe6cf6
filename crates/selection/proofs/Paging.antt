-- The rows of a page's groups, by their places and their tuples.
use Rattle.std.proofs.Common.{◌≡◌, ℕ, zero, suc, ◌+◌, ◌*◌, ◌/◌, ◌%◌, ◌^◌, ◌<◌, ◌∙◌, ◌&&◌, not, Bool, true, false, List, [], ◌∷◌, length, map, get_or, All, Option, Some, None, refl, sym, ap, subst, arith, cond, filter, sum_by, count_by, length-append}
use Rattle.std.proofs.lemmas.Bool.{and_right, cond-false, false_from_ne_true, true≢false}
use Rattle.std.proofs.lemmas.List.{ext_get_or, get_or_default, get_or-map, length-map}
use Rattle.std.proofs.lemmas.List.Elements.{filter_passes}
use Rattle.std.proofs.lemmas.List.Sums.{length-filter}
use Rattle.cubit_base.specs.Predicate.{matches}
use Rattle.cubit_base.specs.Table.{Row}
use Rattle.cubit_base.specs.Tuple.{TupleValue, IsTuple, amount_of}
use Rattle.cubit_base.specs.LiveRow.{tuple_at}
use Rattle.cubit_base.specs.declared.predicate.Predicate.{Predicate}
use Rattle.cubit_base.specs.declared.predicate.Range.{Range}
use Rattle.cubit_base.specs.declared.table.Totals.{Totals}
use Rattle.column_bins.specs.Plan.{has_part, is_candidate, is_in_part, is_part_of}
use Rattle.unit_version.specs.Content.{tuples_from}
use Rattle.wah_words.specs.Group.{group_row, low_bits, group_rows, unpacked}
use Rattle.wah_words.specs.Rows.{has, true_count, true_places}
use Rattle.front_patch.specs.Bits.{row_in}
use Rattle.selection.specs.Blocks.{Tells}
use Rattle.selection.specs.Candidates.{amount_at, is_candidate_at, is_cut_at, is_match_at, is_part_at}
use Rattle.selection.specs.Pages.{AddsUp}
use Rattle.selection.specs.Scan.{HasTuples}
use Rattle.selection.proofs.Parts.{none-part}
use Rattle.selection.proofs.Places.{places-below, places-has, places-tuples}
use Rattle.selection.proofs.Tuples.{count-map, from-at, from-length, sum-filter}

-- ---- unpacked groups

length-bits : (n x : ℕ) → length (low_bits n x) ≡ n
unfolding low_bits
length-bits zero x = refl
length-bits (suc n) x = ap suc (length-bits n (x / 2))

pub length-unpacked : (groups : List ℕ) → length (unpacked groups) ≡ 31 * length groups
unfolding group_rows
length-unpacked [] = refl
length-unpacked (group ∷ groups) =
    length-append (low_bits 31 group) (unpacked groups)
    ∙ ap (λ n. n + length (unpacked groups)) (length-bits 31 group)
    ∙ ap (λ n. 31 + n) (length-unpacked groups) ∙ more (length groups) where
      more : (n : ℕ) → 31 + 31 * n ≡ 31 * suc n
      more n = omega arith

-- the law of rows of groups
abbrev pub RowLaw : Type 0
RowLaw = (groups : List ℕ) (row : ℕ) →
    get_or (unpacked groups) row false ≡ group_row (get_or groups (row / 31) 0) (row % 31)

-- what groups tell, as one list
pub unpacked-tells : (test : Option TupleValue → Bool) (table : List Row) (page n : ℕ) (groups : List ℕ) → RowLaw →
    31 * length groups ≡ n → Tells test table page groups →
    unpacked groups ≡ map test (tuples_from table (3968 * page) n)
unpacked-tells test table page n groups law long tells =
    let ts = tuples_from table (3968 * page) n in
    ext_get_or false (unpacked groups) (map test ts)
    (length-unpacked groups ∙ long ∙ sym (from-length table (3968 * page) n) ∙ sym (length-map ts test))
    (λ row within.
    let inside : row < n = omega (arith, within, length-unpacked groups, long) in
    law groups row ∙ tells.each row (omega (arith, inside, long))
    ∙ ap test (sym (from-at table (3968 * page) n row inside))
    ∙ sym (get_or-map test ts row None false (omega (arith, inside, from-length table (3968 * page) n))))

-- ---- a page's places

-- the places of the rows of a page that pass
abbrev pub page_places : (Option TupleValue → Bool) → List Row → ℕ → List ℕ
page_places test table page = true_places 0 (map test (tuples_from table (3968 * page) 3968))

pub page-below : (test : Option TupleValue → Bool) (table : List Row) (page : ℕ) →
    All (λ place. place < 3968) (page_places test table page)
page-below test table page =
    let ts = tuples_from table (3968 * page) 3968 in
    let none : 0 + length (map test ts) ≡ length (map test ts) = omega arith in
    subst (λ n. All (λ place. place < n) (true_places 0 (map test ts)))
    (none ∙ length-map ts test ∙ from-length table (3968 * page) 3968) (places-below 0 (map test ts))

pub page-tuples : (test : Option TupleValue → Bool) (table : List Row) (page : ℕ) →
    map (λ place. tuple_at table (3968 * page + place)) (page_places test table page)
    ≡ filter test (tuples_from table (3968 * page) 3968)
page-tuples test table page =
    let none : 3968 * page + 0 ≡ 3968 * page = omega arith in
    ap (λ row. map (λ place. tuple_at table (3968 * page + place))
    (true_places 0 (map test (tuples_from table row 3968))))
    (sym none) ∙ places-tuples test table (3968 * page) 0 3968
    ∙ ap (λ row. filter test (tuples_from table row 3968)) none

pub page-count : (test : Option TupleValue → Bool) (table : List Row) (page : ℕ) →
    length (page_places test table page) ≡ count_by test (tuples_from table (3968 * page) 3968)
page-count test table page =
    sym (length-map (page_places test table page) (λ place. tuple_at table (3968 * page + place)))
    ∙ ap length (page-tuples test table page) ∙ length-filter test (tuples_from table (3968 * page) 3968)

pub page-has : (test : Option TupleValue → Bool) (table : List Row) (page row : ℕ) → row < 3968 →
    has (page_places test table page) row ≡ test (tuple_at table (3968 * page + row))
page-has test table page row within =
    let ts = tuples_from table (3968 * page) 3968 in
    let none : 0 + row ≡ row = omega arith in
    ap (has (true_places 0 (map test ts))) (sym none) ∙ places-has 0 (map test ts) row
    ∙ get_or-map test ts row None false (omega (arith, within, from-length table (3968 * page) 3968))
    ∙ ap test (from-at table (3968 * page) 3968 row within)

-- ---- candidates that match

-- the laws of candidates
pub record CandidateLaws : Type 0 where
  pub all : (p : Predicate) (t : TupleValue) → IsTuple t → matches p t ≡ true → is_candidate p t ≡ true
  pub exact : (p : Predicate) (t : TupleValue) → IsTuple t → is_candidate p t ≡ true → is_in_part p t ≡ false →
      matches p t ≡ true

settled : (candidate part match : Bool) → (match ≡ true → candidate ≡ true) →
    (candidate ≡ true → part ≡ false → match ≡ true) →
    (candidate && not ((candidate && part) && not match)) ≡ match
settled true true true all exact = refl
settled true true false all exact = refl
settled true false match all exact = sym (exact refl refl)
settled false part true all exact = all refl
settled false part false all exact = refl

pub settled-match : (p : Predicate) (tuple : Option TupleValue) → CandidateLaws →
    ((t : TupleValue) → tuple ≡ Some t → IsTuple t) →
    (is_candidate_at p tuple && not (is_part_at p tuple && not (is_match_at p tuple))) ≡ is_match_at p tuple
settled-match p None laws fits = refl
settled-match p (Some t) laws fits =
    settled (is_candidate p t) (is_in_part p t) (matches p t) (laws.all p t (fits t refl))
    (laws.exact p t (fits t refl))

-- a page from which the candidates were dropped that do not match
pub settled-page : (p : Predicate) (table : List Row) (page : ℕ) (here : ℕ → Option TupleValue)
    (old new places : List ℕ) →
    CandidateLaws → HasTuples table → length old ≡ 128 → length new ≡ 128 → All (λ group. group < 2 ^ 31) new →
    ((at : ℕ) → at < 3968 → here at ≡ tuple_at table (3968 * page + at)) → Tells (is_candidate_at p) table page old →
    places ≡ page_places (is_part_at p) table page →
    ((row : ℕ) → row_in new row ≡ (row_in old row && not (has places row && not (is_match_at p (here row))))) →
    Tells (is_match_at p) table page new
settled-page p table page here old new places laws fits long-old long small tuples candidates are rows = record {
  small = small;
  each = λ row within.
      let low : row < 3968 = omega (arith, within, long) in
      let tuple = tuple_at table (3968 * page + row) in
      rows row
      ∙ ap (λ b. b && not (has places row && not (is_match_at p (here row))))
      (candidates.each row (omega (arith, low, long-old)))
      ∙ ap (λ (ps : List ℕ). is_candidate_at p tuple && not (has ps row && not (is_match_at p (here row)))) are
      ∙ ap (λ b. is_candidate_at p tuple && not (b && not (is_match_at p (here row))))
      (page-has (is_part_at p) table page row low)
      ∙ ap (λ t. is_candidate_at p tuple && not (is_part_at p tuple && not (is_match_at p t))) (tuples row low)
      ∙ settled-match p tuple laws (fits (3968 * page + row));
}

-- ---- pages of which no day decides

pub no-part : (p : Predicate) (range : Option Range) (tuple : Option TupleValue) → p.ship ≡ range →
    has_part range ≡ false → is_part_at p tuple ≡ false
no-part p range None is none = refl
no-part p range (Some t) is none =
    and_right (is_candidate p t) (is_in_part p t)
    (ap (λ (r : Option Range). is_part_of r t.day) is ∙ none-part range t.day none)

all-match : (candidate part match : Bool) → (candidate && not (part && not match)) ≡ match → part ≡ false →
    candidate ≡ match
all-match true part match same none = ap (λ b. not (b && not match)) (sym none) ∙ same
all-match false part match same none = same

-- there the candidates match
pub tells-match : (p : Predicate) (table : List Row) (page : ℕ) (groups : List ℕ) → CandidateLaws → HasTuples table →
    length groups ≡ 128 →
    ((row : ℕ) → row < 3968 → is_part_at p (tuple_at table (3968 * page + row)) ≡ false) →
    Tells (is_candidate_at p) table page groups → Tells (is_match_at p) table page groups
tells-match p table page groups laws fits long none candidates = record {
  small = candidates.small;
  each = λ row within.
      let tuple = tuple_at table (3968 * page + row) in
      candidates.each row within
      ∙ all-match (is_candidate_at p tuple) (is_part_at p tuple) (is_match_at p tuple)
      (settled-match p tuple laws (fits (3968 * page + row))) (none row (omega (arith, within, long)));
}

-- the rows of a page that are in both of two
turned : (a b : Bool) → (a && b) ≡ (b && a)
turned true true = refl
turned true false = refl
turned false true = refl
turned false false = refl

pub part-turned : (p : Predicate) (tuple : Option TupleValue) →
    (is_cut_at p tuple && is_candidate_at p tuple) ≡ is_part_at p tuple
part-turned p tuple = turned (is_cut_at p tuple) (is_candidate_at p tuple)

-- how many rows of a page are true
pub page-true : (test : Option TupleValue → Bool) (table : List Row) (page : ℕ) (groups : List ℕ) → RowLaw →
    length groups ≡ 128 → Tells test table page groups →
    true_count (unpacked groups) ≡ count_by test (tuples_from table (3968 * page) 3968)
page-true test table page groups law long tells =
    ap true_count (unpacked-tells test table page 3968 groups law (omega (arith, long)) tells)
    ∙ count-map test (tuples_from table (3968 * page) 3968)

-- ---- what a page's candidates add up to

pub page-passes : (test : Option TupleValue → Bool) (table : List Row) (page : ℕ) →
    All (λ place. test (tuple_at table (3968 * page + place)) ≡ true) (page_places test table page)
page-passes test table page k d within =
    let f : ℕ → Option TupleValue = λ place. tuple_at table (3968 * page + place) in
    let ps = page_places test table page in
    let all = subst (λ (ts : List (Option TupleValue)). All (λ t. test t ≡ true) ts) (sym (page-tuples test table page))
    (filter_passes test (tuples_from table (3968 * page) 3968)) in
    ap test (sym (get_or-map f ps k d (f d) within)) ∙ all k (f d) (omega (arith, within, length-map ps f))

map-same : {X Y : Type 0} (f g : X → Y) (P : X → Type 0) (xs : List X) → ((x : X) → P x → f x ≡ g x) → All P xs →
    map f xs ≡ map g xs
map-same f g P [] same all = refl
map-same f g P (x ∷ xs) same all =
    ap (λ y. y ∷ map f xs) (same x (all 0 x (omega arith)))
    ∙ ap (λ ys. g x ∷ ys) (map-same f g P xs same (λ k d within. all (suc k) d (omega (arith, within))))

-- each of a page's tuples is within its ranges
fits-at : (table : List Row) (row n : ℕ) → HasTuples table →
    All (λ tuple. (t : TupleValue) → tuple ≡ Some t → IsTuple t) (tuples_from table row n)
fits-at table row n fits k d within t is =
    fits (row + k) t (sym (from-at table row n k (omega (arith, within, from-length table row n)))
    ∙ get_or_default (tuples_from table row n) k None d within ∙ is)

no-match : (p : Predicate) (tuple : Option TupleValue) → CandidateLaws →
    ((t : TupleValue) → tuple ≡ Some t → IsTuple t) → is_candidate_at p tuple ≡ false → is_match_at p tuple ≡ false
no-match p None laws fits none = refl
no-match p (Some t) laws fits none =
    false_from_ne_true (matches p t) (λ is. true≢false (sym (laws.all p t (fits t refl) is) ∙ none))

no-amount : (p : Predicate) (tuple : Option TupleValue) → is_match_at p tuple ≡ false → amount_at p tuple ≡ 0
no-amount p None none = refl
no-amount p (Some t) none = cond-false (matches p t) (amount_of t) 0 none

pub page-adds : (p : Predicate) (table : List Row) (page : ℕ) (here : ℕ → Option TupleValue) (places : List ℕ)
    (before now : Totals) → CandidateLaws → HasTuples table →
    ((at : ℕ) → at < 3968 → here at ≡ tuple_at table (3968 * page + at)) →
    places ≡ page_places (is_candidate_at p) table page → AddsUp p (map here places) before now →
    AddsUp p (tuples_from table (3968 * page) 3968) before now
page-adds p table page here places before now laws fits tuples are adds =
    let ts = tuples_from table (3968 * page) 3968 in
    let candidate = is_candidate_at p in
    let same : map here places ≡ filter candidate ts =
    ap (map here) are
    ∙ map-same here (λ at. tuple_at table (3968 * page + at)) (λ at. at < 3968) (page_places candidate table page)
    tuples
    (page-below candidate table page)
    ∙ page-tuples candidate table page in
    let fit = fits-at table (3968 * page) 3968 fits in
    record {
      count = adds.count ∙ ap (λ n. before.count + n) (ap (count_by (is_match_at p)) same
          ∙ sum-filter (λ t. cond (is_match_at p t) 1 0) candidate ts (λ k d within none.
          cond-false (is_match_at p (get_or ts k d)) 1 0 (no-match p (get_or ts k d) laws (fit k d within) none)));
      sum = adds.sum ∙ ap (λ n. before.sum + n) (ap (sum_by (amount_at p)) same
          ∙ sum-filter (amount_at p) candidate ts (λ k d within none.
          no-amount p (get_or ts k d) (no-match p (get_or ts k d) laws (fit k d within) none)));
    }
