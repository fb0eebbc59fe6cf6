use Rattle.std.proofs.Common.{◌∙◌, ap}
use Rattle.cubit_base.specs.Tuple.{IsTuple}
use Rattle.unit_version.specs.Packed.{unpacked}
use Rattle.unit_version.proofs.PackedWords.{unpacked-tuple_word, IsPacked-tuple_word}
use Rattle.unit_version.proofs.packed.PackedTuple.new.Goals as goal

pub invariant_of-result : goal.invariant_of-result
invariant_of-result c =
    let is : IsTuple c.args.tuple.now = rw (← c.tuple.view_is) c.tuple.invariant in
    rw c.pack.ensures (IsPacked-tuple_word c.args.tuple.now is)

pub returns : goal.returns
returns c =
    let is : IsTuple c.args.tuple.now = rw (← c.tuple.view_is) c.tuple.invariant in
    ap unpacked c.pack.ensures ∙ unpacked-tuple_word c.args.tuple.now is
