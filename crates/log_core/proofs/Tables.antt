-- The table after the first deltas of a history.
use Rattle.std.proofs.Common.{◌≡◌, ◌≢◌, ℕ, zero, suc, ◌+◌, ◌<◌, ◌≤◌, List, [], ◌∷◌, ◌++◌, length, take, slice_get, Option, Some, if◌then◌else◌, sym, ap, ◌∙◌, subst, arith}
use mathlib.Core.Logic.{dite}
use native.Mathlib.Decide.{ℕ_discrete}
use Rattle.std.proofs.lemmas.List.{take_more}
use Rattle.std.proofs.lemmas.Option.{slice_get_within, get_or_from_slice_get}
use Rattle.std.proofs.lemmas.List.Sums.{fold-append}
use Rattle.cubit_base.specs.Key.{KeyValue}
use Rattle.cubit_base.specs.Tuple.{TupleValue}
use Rattle.cubit_base.specs.Table.{Row}
use Rattle.cubit_base.specs.Delta.{applied, IsLawful, is_insert}
use Rattle.cubit_base.specs.History.{after, rows_after, IsHistory}
use Rattle.cubit_base.specs.declared.delta.Delta.{Delta}
use Rattle.log_core.specs.Terms.{CoreTerms, AreTerms}
use Rattle.log_core.specs.Chain.{delta_at, no_delta}

-- after one more
pub after-next : (table : List Row) (h : List Delta) (k : ℕ) → k < length h →
    after table (take (k + 1) h) ≡ applied (after table (take k h)) (delta_at h k)
after-next table h k lt =
    ap (after table) (take_more h k no_delta lt) ∙ fold-append applied table (take k h) (delta_at h k ∷ [])

pub lawful-at : (limit : ℕ) (table : List Row) (h : List Delta) (k : ℕ) → IsHistory limit table h → k < length h →
    IsLawful limit (after table (take k h)) (delta_at h k)
lawful-at limit table [] k is lt = absurd (omega arith)
lawful-at limit table (d ∷ h) zero is lt = is.0
lawful-at limit table (d ∷ h) (suc k) is lt = lawful-at limit (applied table d) h k is.1 (omega arith)

-- no row has the key and a tuple
abbrev pub HasNoLive : List Row → KeyValue → ℕ → Type 0
HasNoLive table key n =
    (j : ℕ) (t : TupleValue) → j < n → slice_get table j ≡ Some (key, Some t) → ⊥

abbrev pub RowsGrow : Type 0
RowsGrow = (limit : ℕ) (table : List Row) (d : Delta) → IsLawful limit table d →
    length (applied table d) ≡ length table + (if is_insert d then 1 else 0)

pub rows-next : RowsGrow → (limit : ℕ) (table : List Row) (h : List Delta) (k : ℕ) → IsHistory limit table h →
    k < length h →
    rows_after table (take (k + 1) h) ≡ rows_after table (take k h) + (if is_insert (delta_at h k) then 1 else 0)
rows-next grow limit table h k is lt =
    ap (λ (t : List Row). length t) (after-next table h k lt)
    ∙ grow limit (after table (take k h)) (delta_at h k) (lawful-at limit table h k is lt)

abbrev pub RowSet : Type 0
RowSet = (limit : ℕ) (table : List Row) (d : Delta) → IsLawful limit table d →
    slice_get (applied table d) d.row ≡ Some (d.key, d.after)

abbrev pub RowsStay : Type 0
RowsStay = (table : List Row) (d : Delta) (n : ℕ) → n ≢ d.row → slice_get (applied table d) n ≡ slice_get table n

-- a row after one more delta
pub row-next : RowSet → RowsStay → (limit : ℕ) (table : List Row) (h : List Delta) (k n : ℕ) (d : Delta)
    (before now : Option Row) → IsHistory limit table h → k < length h → d ≡ delta_at h k →
    before ≡ slice_get (after table (take k h)) n → (n ≡ d.row → now ≡ Some (d.key, d.after)) →
    (n ≢ d.row → now ≡ before) → now ≡ slice_get (after table (take (k + 1) h)) n
row-next set stay limit table h k n d before now is lt at was own other =
    let here = after table (take k h) in
    let after_d : applied here d ≡ after table (take (k + 1) h) =
    ap (applied here) at ∙ sym (after-next table h k lt) in
    let lawful : IsLawful limit here d = subst (IsLawful limit here) (sym at) (lawful-at limit table h k is lt) in
    dite (ℕ_discrete n d.row)
    (λ e. own e ∙ sym (set limit here d lawful) ∙ ap (slice_get (applied here d)) (sym e)
    ∙ ap (λ (t : List Row). slice_get t n) after_d)
    (λ ne. other ne ∙ was ∙ sym (stay here d n ne) ∙ ap (λ (t : List Row). slice_get t n) after_d)

abbrev pub RowsFit : Type 0
RowsFit = (limit : ℕ) (table : List Row) (h : List Delta) → IsHistory limit table h → length table ≤ limit →
    rows_after table h ≤ limit

abbrev pub FrontsFollow : Type 0
FrontsFollow = (limit : ℕ) (table : List Row) (h : List Delta) (n : ℕ) → IsHistory limit table h →
    IsHistory limit table (take n h)

pub rows-few : RowsFit → FrontsFollow → (t : CoreTerms) (h : List Delta) (n : ℕ) → AreTerms t →
    IsHistory t.limits.row_limit t.base h → rows_after t.base (take n h) ≤ 16_777_216
rows-few fit fronts t h n a is =
    let limits = a.limits in
    let most = limits.most_rows in
    let within = fit t.limits.row_limit t.base (take n h) (fronts t.limits.row_limit t.base h n is) limits.base_rows in
    omega arith

pub rows-appended : RowsGrow → (limit : ℕ) (table : List Row) (h : List Delta) (d : Delta) (rows added : ℕ) →
    IsLawful limit (after table h) d → rows ≡ rows_after table h → added ≡ (if is_insert d then 1 else 0) →
    rows + added ≡ rows_after table (h ++ d ∷ [])
rows-appended grow limit table h d rows added lawful is more =
    (λ i. is i + more i) ∙ sym (grow limit (after table h) d lawful)
    ∙ sym (ap (λ (t : List Row). length t) (fold-append applied table h (d ∷ [])))

-- a copy with one more row
pub copied-next : (table copy longer : List Row) (n : ℕ) (row : Row) → copy ≡ take n table →
    slice_get table n ≡ Some row → longer ≡ copy ++ row ∷ [] → longer ≡ take (n + 1) table
copied-next table copy longer n row is at more =
    more ∙ ap (λ (rows : List Row). rows ++ row ∷ []) is
    ∙ sym (take_more table n row (slice_get_within table n row at)
    ∙ ap (λ (r : Row). take n table ++ r ∷ []) (get_or_from_slice_get table n row row at))
