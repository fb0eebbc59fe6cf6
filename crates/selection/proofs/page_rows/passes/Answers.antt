use Rattle.std.proofs.Common.{◌∙◌, sym}
use Rattle.cubit_base.specs.Tuple.{IsTuple}
use Rattle.selection.proofs.Parts.{none-part}
use Rattle.selection.proofs.page_rows.passes.Goals as goal

pub returns : goal.returns
returns c =
    let is : IsTuple c.args.tuple.now = rw (← c.tuple.view_is) c.tuple.invariant in
    sym (c.candidates.ensures.exact c.args.predicate.now c.args.tuple.now is c.requires.candidate
    (none-part c.args.predicate.now.ship c.args.tuple.now.day (sym c.requires.cuts ∙ c.if-cuts.false)))
