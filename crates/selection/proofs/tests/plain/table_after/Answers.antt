use Rattle.std.proofs.Common.{◌∙◌, ◌++◌, [], ◌∷◌, ap, sym, arith, length, List}
use Rattle.std.proofs.lemmas.List.{take_all, length-take}
use Rattle.cubit_base.specs.Table.{Row}
use Rattle.cubit_base.specs.Delta.{applied}
use Rattle.selection.proofs.Copying.{take-get}
use Rattle.selection.proofs.tests.plain.table_after.Goals as goal

pub push-requires : goal.push-requires
push-requires c =
    omega (
      arith,
      ap (λ (rows : List Row). length rows) c.loop-n.invariant,
      length-take c.loop-n.n (applied c.args.table.now c.args.delta.now),
      c.loop-n-test.true,
      c.rows_after-n-end.ensures.few,
    )

pub loop-n-preserved : goal.loop-n-preserved
loop-n-preserved c =
    let after = applied c.args.table.now c.args.delta.now in
    c.in_ok-push.ensures.ok ∙ ap (λ rows. rows ++ c.unwrap-key.result ∷ []) c.loop-n.invariant
    ∙ sym (take-get after c.loop-n.n c.unwrap-key.result (sym c.row_after.ensures ∙ c.unwrap-key.ensures))

pub returns : goal.returns
returns c =
    c.loop-n.invariant
    ∙ take_all c.loop-n.n (applied c.args.table.now c.args.delta.now)
    (omega (arith, c.loop-n-test.false, c.rows_after-n-end.ensures.value))
