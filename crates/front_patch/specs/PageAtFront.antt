-- The tuples of a page, some of whose rows were changed.
use Rattle.std.specs.Prelude.{ℕ, ◌+◌, Option, None, slice_index_or}
use Rattle.std.specs.Option.{option_and_then, unwrap_or}
use Rattle.cubit_base.specs.Tuple.{TupleValue}
use Rattle.front_patch.specs.RowStates.{last_state}
use Rattle.front_patch.specs.declared.page.PageAtFront.{PageAtFront}

-- the tuple at a place: by the last state of its row, or else that which the page held, if there was one
abbrev pub tuple_here : PageAtFront → ℕ → Option TupleValue
tuple_here p at =
    unwrap_or (last_state (p.first + at) p.changed.now)
    (option_and_then (λ page. slice_index_or page.now at None) p.page)
