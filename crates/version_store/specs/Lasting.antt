-- What a longer log keeps.
use Rattle.std.proofs.Common.{◌≡◌, List, length, take, Option, Some, None, ap, sym, ◌∙◌, arith, length-append}
use Rattle.std.proofs.lemmas.List.{take-append-le}
use Rattle.cubit_base.specs.History.{after, rows_after}
use Rattle.cubit_base.specs.declared.delta.Delta.{Delta}
use Rattle.commit_log.specs.Log.{Terms, Stands}
use Rattle.commit_log.specs.Handle.{Begins}
use Rattle.commit_log.specs.declared.front.Front.{Front}
use Rattle.unit_version.specs.Content.{content_of}
use Rattle.unit_version.specs.declared.unit.Unit.{Unit as IndexUnit}
use Rattle.unit_version.specs.declared.content.Content.{Content}
use Rattle.version_store.specs.Version.{Version, IsContentAt, Fits}

module _ (terms : Terms) (log longer : List Delta) (begins : Begins log longer) (front : Front)
    (stands : Stands terms log front) where
  -- a prefix stays that prefix
  prefix-last : take front.len longer ≡ take front.len log
  prefix-last = ap (take front.len) begins.1 ∙ take-append-le front.len log begins.0 stands.within

  stands-last : Stands terms longer front
  stands-last =
      let long = length-append log begins.0 in
      let is = ap (λ (x : List Delta). length x) begins.1 in
      let within = stands.within in record {
        within = omega arith;
        rows = stands.rows ∙ ap (rows_after terms.base) (sym prefix-last);
        node = stands.node ∙ ap terms.node (sym prefix-last);
      }

  content-last : (unit : IndexUnit) (content : Option Content) → IsContentAt terms log unit front content →
      IsContentAt terms longer unit front content
  content-last unit None is = is
  content-last unit (Some content) is =
      is ∙ ap (λ (h : List Delta). content_of unit (after terms.base h)) (sym prefix-last)

-- a version that fits still does
pub fits-last : (terms : Terms) (log longer : List Delta) (unit : IndexUnit) (version : Version) → Begins log longer →
    Fits terms log unit version → Fits terms longer unit version
fits-last terms log longer unit version begins fits = record {
  stands = stands-last terms log longer begins version.front fits.stands;
  content_is = content-last terms log longer begins version.front fits.stands unit version.content fits.content_is;
}
