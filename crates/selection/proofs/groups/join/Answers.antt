use Rattle.std.proofs.Common.{◌<◌, ◌||◌, get_or, refl, arith}
use Rattle.std.specs.Prelude.{bit_or}
use Rattle.std.proofs.lemmas.List.{get_or_default}
use Rattle.std.proofs.lemmas.Nat.{or_lt}
use Rattle.selection.proofs.RowBits.{rows-by, row-of-or}
use Rattle.selection.proofs.groups.join.Goals as goal

pub returns-clause-small : goal.returns-clause-small
returns-clause-small c k d within =
    let is = c.loop-i.invariant in
    let old = get_or c.args.groups.now k 0 in
    let inside : k < c.loop-i.i = omega (arith, within, is.long, c.loop-i-test.false) in
    omega (
      arith,
      get_or_default c.loop-i.groups k d 0 within,
      is.done k inside,
      or_lt 31 old (get_or c.args.others.now k 0) (c.requires.small k 0 (omega (arith, within, is.long)))
          (c.requires.others k 0 (omega (arith, within, is.long, c.requires.long))),
    )

pub returns-clause-rows : goal.returns-clause-rows
returns-clause-rows c =
    rows-by bit_or ◌||◌ c.args.groups.now c.args.others.now c.loop-i.groups refl row-of-or c.requires.long
    c.loop-i.invariant.long (λ k within. c.loop-i.invariant.done k
    (omega (arith, within, c.loop-i.invariant.long, c.loop-i-test.false)))
