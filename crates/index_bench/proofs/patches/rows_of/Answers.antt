use Rattle.std.proofs.Common.{◌<◌, ◌∙◌, [], ◌∷◌, ◌++◌, List, length, take, sym, ap}
use Rattle.std.proofs.lemmas.List.{take_more}
use Rattle.std.proofs.lemmas.Option.{slice_get_within, get_or_from_slice_get}
use Rattle.cubit_base.specs.Table.{Row}
use Rattle.index_bench.proofs.patches.rows_of.Goals as goal

pub loop-n-preserved : goal.loop-n-preserved
loop-n-preserved c =
    let table = c.args.table.now in
    let n = c.loop-n.n in
    let row = c.unwrap.result in
    let read = sym c.row.ensures ∙ c.unwrap.ensures in
    let within : n < length table = slice_get_within table n row read in
    c.in_ok-push.ensures.items
    ∙ ap (λ (rows : List Row). rows ++ row ∷ []) c.loop-n.invariant
    ∙ sym (take_more table n row within
    ∙ ap (λ (r : Row). take n table ++ r ∷ []) (get_or_from_slice_get table n row row read))
