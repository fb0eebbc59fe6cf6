-- The tuples of pages of any age.
use Rattle.std.proofs.Common.{◌≡◌, ℕ, ◌+◌, ◌*◌, ◌<◌, ◌≤◌, ◌∙◌, List, [], length, take, get_or, slice_get, Option, Some, None, IfSome, IfNone, Bor, sym, ap, arith}
use Rattle.std.specs.Option.{option_and_then}
use Rattle.std.proofs.lemmas.Option.{get_or_from_slice_get, slice_get_past}
use Rattle.cubit_base.specs.Table.{Row}
use Rattle.cubit_base.specs.Tuple.{TupleValue}
use Rattle.cubit_base.specs.LiveRow.{tuple_at}
use Rattle.cubit_base.specs.History.{after, rows_after}
use Rattle.cubit_base.specs.declared.delta.Delta.{Delta}
use Rattle.commit_log.specs.Log.{Terms}
use Rattle.unit_version.specs.Content.{content_of, tuples_from}
use Rattle.unit_version.specs.declared.unit.Unit.TheVariants.{Page}
use Rattle.unit_version.specs.declared.content.Content.{Content}
use Rattle.unit_version.specs.declared.content.Content.TheVariants as content
use Rattle.front_patch.specs.Since.{IsContentSince}

page_in : Content → List (Option TupleValue)
page_in (content.Bits bits) = []
page_in (content.Page page) = page
page_in (content.Keys keys) = []

page-is : (held : List (Option TupleValue)) (table : List Row) (page : ℕ) →
    content.Page held ≡ content_of (Page page) table → held ≡ tuples_from table (3968 * page) 3968
unfolding page_in
page-is held table page is = ap page_in is

-- what was held of a page is what its rows had at some length from the least on
pub held-tuple : (terms : Terms) (seen : List Delta) (least page pages at : ℕ)
    (held : Option (Bor (List (Option TupleValue)))) →
    ((table : List Row) (row n i : ℕ) → i < n → slice_get (tuples_from table row n) i ≡ Some
    (tuple_at table (row + i))) →
    IfSome held (λ h. IsContentSince terms seen least (Page page) (content.Page h.now)) →
    IfNone held (pages ≤ page) → rows_after terms.base (take least seen) ≤ 3968 * pages → least ≤ length seen →
    at < 3968 → (len : ℕ) × (least ≤ len) × (len ≤ length seen)
    × (option_and_then (λ (h : Bor (List (Option TupleValue))). get_or h.now at None) held
    ≡ tuple_at (after terms.base (take len seen)) (3968 * page + at))
held-tuple terms seen least page pages at None each some none paged within low = (
  least,
  omega arith,
  within,
  sym (ap (option_and_then (λ (r : Row). r.1))
      (slice_get_past (after terms.base (take least seen)) (3968 * page + at) (omega (arith, paged, none)))),
)
held-tuple terms seen least page pages at (Some h) each some none paged within low =
    let table = after terms.base (take some.len seen) in (
      some.len,
      some.since,
      some.within,
      ap (λ (tuples : List (Option TupleValue)). get_or tuples at None) (page-is h.now table page some.is)
          ∙ get_or_from_slice_get (tuples_from table (3968 * page) 3968) at (tuple_at table (3968 * page + at)) None
          (each table (3968 * page) 3968 at low),
    )
