use Rattle.std.proofs.Common.{◌≡◌, ◌*◌, ◌∙◌, ◌++◌, List, Option, ap}
use Rattle.cubit_base.specs.Tuple.{TupleValue}
use Rattle.cubit_base.specs.declared.table.TheConstants.{ROW_LIMIT}
use Rattle.unit_version.proofs.RowStates.{RowLaws}
use Rattle.unit_version.proofs.PageChanges.{tuples_from-after}
use Rattle.unit_version.proofs.page.Page.patched.Goals as goal

pub returns : goal.returns
returns c table deltas lawful are is =
    let laws : RowLaws = record {
      count = c.rows.ensures.count;
      first = c.rows.ensures.first;
      last = c.rows.ensures.last;
    } in
    let copied : c.extend_from_slice.new.self.items ≡ c.args.self.now =
    c.in_ok-extend_from_slice.ensures.items
    ∙ ap (λ (slots : List (Option TupleValue)). slots ++ c.deref.result.now) c.in_ok-slots.ensures.items
    ∙ c.deref.ensures.value
    ∙ c.self.view_is in
    tuples_from-after laws ROW_LIMIT table deltas c.args.changes.now (3968 * c.args.page) 3968
    c.extend_from_slice.new.self.items c.write_changes.new.slots.items lawful are (copied ∙ is) c.write_changes.ensures
