use Rattle.std.proofs.Common.{◌≡◌, ◌∙◌, ◌<◌, sym, ap, subst, arith}
use Rattle.std.specs.Prelude.{All}
use Rattle.std.specs.Int.{div_ceil}
use Rattle.std.specs.List.Sorted.{IsStrictlyIncreasing}
use Rattle.kernel_bench.specs.Kernel.{multiples}
use Rattle.kernel_bench.proofs.Multiples.{multiples-rise, each_of-below}
use Rattle.kernel_bench.proofs.kernel.each_of.Goals as goal
use Rattle.kernel_bench.proofs.kernel.each_of.Goals.{After-loop-i}

all : (c : After-loop-i) → c.loop-i.i ≡ div_ceil c.args.rows c.args.step
all c = omega (arith, c.loop-i-test.false, c.loop-i.auto.i-end, c.div_ceil-count.ensures)

pub returns-clause-each : goal.returns-clause-each
returns-clause-each c = c.loop-i.invariant ∙ ap (multiples c.args.step) (all c)

pub returns-clause-rising : goal.returns-clause-rising
returns-clause-rising c =
    subst IsStrictlyIncreasing (sym c.loop-i.invariant) (multiples-rise c.args.step c.loop-i.i c.requires)

pub returns-clause-below : goal.returns-clause-below
returns-clause-below c =
    subst (All (λ place. place < c.args.rows)) (sym (c.loop-i.invariant ∙ ap (multiples c.args.step) (all c)))
    (each_of-below c.args.step c.args.rows c.requires)
