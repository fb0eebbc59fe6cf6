use Rattle.std.proofs.Common.{◌≡◌, ◌∙◌, Bool, List, map, sym, ap, subst}
use Rattle.cubit_base.specs.History.{after}
use Rattle.unit_version.specs.Changes.{turned_rows}
use Rattle.unit_version.specs.Content.{content_of, is_live, is_in_bins, one_bin}
use Rattle.unit_version.specs.declared.content.Content.TheVariants as content
use Rattle.unit_version.specs.declared.unit.Unit.{Unit as IndexUnit}
use Rattle.unit_version.specs.declared.unit.Unit.TheVariants as unit
use Rattle.unit_version.proofs.RowStates.{RowLaws}
use Rattle.unit_version.proofs.TurnedRows.{live-bit, bin-bit}
use Rattle.unit_version.proofs.PatchedBits.{turned-rising, turned-below, toggled-list, same-bits}
use Rattle.unit_version.proofs.patch.patched_by.Goals as goal

pub toggled-requires-clause-rising : goal.toggled-requires-clause-rising
toggled-requires-clause-rising c =
    let laws : RowLaws =
    record { count = c.rows.ensures.count; first = c.rows.ensures.first; last = c.rows.ensures.last } in
    let told = c.turned_in-turned.ensures in
    turned-rising laws 16_777_216 c.args.unit c.args.changes.now told.changes told.changes_are
    c.turned_in-turned.result.now
    told.turned_are

pub toggled-requires-clause-below : goal.toggled-requires-clause-below
toggled-requires-clause-below c =
    let laws : RowLaws =
    record { count = c.rows.ensures.count; first = c.rows.ensures.first; last = c.rows.ensures.last } in
    let told = c.turned_in-turned.ensures in
    let leads = c.requires.can.1 in
    turned-below laws 16_777_216 c.args.unit c.args.changes.now told.changes told.changes_are
    c.turned_in-turned.result.now
    told.turned_are c.requires.can.0 leads.lawful c.args.rows_after leads.rows_become

pub toggled-requires-in-Bin-Bits-clause-rising : goal.toggled-requires-in-Bin-Bits-clause-rising
toggled-requires-in-Bin-Bits-clause-rising c =
    let laws : RowLaws =
    record { count = c.rows.ensures.count; first = c.rows.ensures.first; last = c.rows.ensures.last } in
    let told = c.turned_in-turned-in-Bin-Bits.ensures in
    turned-rising laws 16_777_216 c.args.unit c.args.changes.now told.changes told.changes_are
    c.turned_in-turned-in-Bin-Bits.result.now
    told.turned_are

pub toggled-requires-in-Bin-Bits-clause-below : goal.toggled-requires-in-Bin-Bits-clause-below
toggled-requires-in-Bin-Bits-clause-below c =
    let laws : RowLaws =
    record { count = c.rows.ensures.count; first = c.rows.ensures.first; last = c.rows.ensures.last } in
    let told = c.turned_in-turned-in-Bin-Bits.ensures in
    let leads = c.requires.can.1 in
    turned-below laws 16_777_216 c.args.unit c.args.changes.now told.changes told.changes_are
    c.turned_in-turned-in-Bin-Bits.result.now
    told.turned_are c.requires.can.0 leads.lawful c.args.rows_after leads.rows_become

pub returns-in_ok-toggled-in-Live-Bits : goal.returns-in_ok-toggled-in-Live-Bits
returns-in_ok-toggled-in-Live-Bits c table leads =
    let laws : RowLaws =
    record { count = c.rows.ensures.count; first = c.rows.ensures.first; last = c.rows.ensures.last } in
    let told = c.turned_in-turned.ensures in
    let u : IndexUnit = unit.Live in
    let f = is_live in
    let bits = c.in-Live-Bits.bits in
    let new = c.in_ok-toggled-in-Live-Bits in
    let turned = told.turned_are ∙ ap (λ (u : IndexUnit). turned_rows u told.changes) c.in-Live-Bits.is-0 in
    let old : bits ≡ map f table =
    same-bits bits (map f table)
    (sym c.in-Live-Bits.is-1 ∙ leads.holds ∙ ap (λ (u : IndexUnit). content_of u table) c.in-Live-Bits.is-0) in
    ap content.Bits (toggled-list laws 16_777_216 u c.args.changes.now told.changes told.changes_are
    c.turned_in-turned.result.now
    turned table leads.lawful c.args.rows_after leads.rows_become c.toggles.ensures.same f live-bit bits new.field-0 old
    new.ensures.length new.ensures.rows)
    ∙ ap (λ (u : IndexUnit). content_of u (after table c.args.changes.now)) (sym c.in-Live-Bits.is-0)

pub returns-in_ok-toggled-in-Bin-Bits : goal.returns-in_ok-toggled-in-Bin-Bits
returns-in_ok-toggled-in-Bin-Bits c table leads =
    let laws : RowLaws =
    record { count = c.rows.ensures.count; first = c.rows.ensures.first; last = c.rows.ensures.last } in
    let told = c.turned_in-turned-in-Bin-Bits.ensures in
    let u : IndexUnit = unit.Bin c.in-Bin-Bits.field-0-0 c.in-Bin-Bits.field-1-0 in
    let f = is_in_bins c.in-Bin-Bits.field-0-0 (one_bin c.in-Bin-Bits.field-1-0) in
    let bits = c.in-Bin-Bits.bits in
    let new = c.in_ok-toggled-in-Bin-Bits in
    let turned = told.turned_are ∙ ap (λ (u : IndexUnit). turned_rows u told.changes) c.in-Bin-Bits.is-0 in
    let old : bits ≡ map f table =
    same-bits bits (map f table)
    (sym c.in-Bin-Bits.is-1 ∙ leads.holds ∙ ap (λ (u : IndexUnit). content_of u table) c.in-Bin-Bits.is-0) in
    ap content.Bits (toggled-list laws 16_777_216 u c.args.changes.now told.changes told.changes_are
    c.turned_in-turned-in-Bin-Bits.result.now
    turned table leads.lawful c.args.rows_after leads.rows_become c.toggles.ensures.same f
    (bin-bit c.in-Bin-Bits.field-0-0 c.in-Bin-Bits.field-1-0) bits new.field-0 old
    new.ensures.length new.ensures.rows)
    ∙ ap (λ (u : IndexUnit). content_of u (after table c.args.changes.now)) (sym c.in-Bin-Bits.is-0)
