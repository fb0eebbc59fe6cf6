use Rattle.std.proofs.Common.{◌+◌, drop}
use Rattle.std.proofs.lemmas.List.{drop_more}
use Rattle.log_core.specs.declared.step.Step.TheVariants.{Store}
use Rattle.log_core.proofs.Runs.{goes-lawful, goes-next}
use Rattle.log_core.proofs.laws.run.Goals as goal

pub took-requires : goal.took-requires
took-requires c =
    let steps = c.args.steps.now in let i = c.loop-step.step-index in
    goes-lawful c.args.core.now c.loop-step.core c.args.party steps (drop i steps) (drop (i + 1) steps) _ c.requires
    c.loop-step.invariant (drop_more steps i (Store 0 0 0) c.loop-step-test.true)

pub loop-step-preserved : goal.loop-step-preserved
loop-step-preserved c =
    let steps = c.args.steps.now in let i = c.loop-step.step-index in
    goes-next c.words.ensures.entry c.args.core.now c.loop-step.core c.took.new.core c.args.party steps (drop i steps)
    (drop (i + 1) steps) _ c.took.result c.is_sound.ensures.sound c.loop-step.invariant
    (drop_more steps i (Store 0 0 0) c.loop-step-test.true) c.took.ensures
