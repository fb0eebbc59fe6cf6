use Rattle.std.proofs.Common.{◌≡◌, ◌+◌, ◌∙◌, ◌++◌, [], ◌∷◌, ap, sym, arith, take, List, length}
use Rattle.std.proofs.lemmas.List.{take_all}
use Rattle.cubit_base.specs.Delta.{applied}
use Rattle.front_patch.proofs.Least.{none-byte}
use Rattle.front_patch.proofs.Slots.{take-get}
use Rattle.front_patch.proofs.tests.plain.table_after.Goals as goal

pub loop-n-init : goal.loop-n-init
loop-n-init c = (
  c.new-after.ensures,
  omega (
    arith,
    c.len.ensures.value,
    c.from.ensures,
    none-byte c.args.delta.now.before c.is_none.result c.is_none.ensures,
    c.deltas.ensures.count c.args.limit c.args.table.now c.args.delta.now c.requires.lawful,
  ),
)

pub loop-n-preserved : goal.loop-n-preserved
loop-n-preserved c =
    let after = applied c.args.table.now c.args.delta.now in (
      c.in_ok-push.ensures.ok ∙ ap (λ rows. rows ++ c.unwrap-key.result ∷ []) c.loop-n.invariant.0
          ∙ sym (take-get after c.loop-n.n c.unwrap-key.result (sym c.row_after.ensures ∙ c.unwrap-key.ensures)),
      c.loop-n.invariant.1,
    )

pub returns : goal.returns
returns c =
    c.loop-n.invariant.0
    ∙ take_all c.loop-n.n (applied c.args.table.now c.args.delta.now) (omega
    (arith, c.loop-n-test.false, c.loop-n.invariant.1))
