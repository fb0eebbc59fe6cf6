use Rattle.std.proofs.Common.{arith, ◌∙◌, sym}
use Rattle.column_bins.proofs.Stretches.{met-between, met-nowhere, in_stretch-empty}
use Rattle.column_bins.proofs.planning.stretch_of.Goals as goal

pub returns-then-lo-hi : goal.returns-then-lo-hi
returns-then-lo-hi c = λ b.
    in_stretch-empty b
    ∙ sym (
    met-nowhere c.args.column c.args.range.now c.max-lo.result c.min-hi.result b (omega arith) (omega arith)
    (omega arith)
    )

pub returns : goal.returns
returns c = λ b.
    let r = c.args.range.now in
    let between =
    met-between c.args.column r c.max-lo.result c.min-hi.result b (omega arith) (omega arith) (omega arith) in
    rw (c.bin_at.ensures.value, c.bin_at-2.ensures.value) between
