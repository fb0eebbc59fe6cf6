use Rattle.std.proofs.Common.{sym, subst}
use Rattle.log_core.specs.declared.step.Step.TheVariants.{LoadLink}
use Rattle.log_core.specs.Steps.{TakesStep, IsLawfulStep}
use Rattle.log_core.proofs.Alone.{lawful-tail, lawful-link, one-link, lawful-last, takes-front, front-ends, front-seen}
use Rattle.log_core.proofs.laws.front_alone.Goals as goal

pub took-tail-requires : goal.took-tail-requires
took-tail-requires c = lawful-tail c.args.core.now c.is_sound.ensures.sound c.args.party c.requires

pub took-link-requires : goal.took-link-requires
took-link-requires c =
    let core = c.args.core.now in let y = c.took-tail.new.core in
    subst (λ n. IsLawfulStep y c.args.party (LoadLink n)) (sym c.tail-node.ensures)
    (lawful-link core c.is_sound.ensures.sound c.args.party c.requires y c.took-tail.ensures.gives.1)

pub took-counts-requires : goal.took-counts-requires
took-counts-requires c =
    let core = c.args.core.now in
    let s = c.is_sound.ensures.sound in
    let y = c.took-tail.new.core in let z = c.took-link.new.core in
    let second = subst (λ n. TakesStep y c.args.party (LoadLink n) c.took-link.result z) c.tail-node.ensures
    c.took-link.ensures in
    lawful-last core s c.args.party c.requires z c.last-last.result
    (one-link core s c.args.party c.requires y z c.took-link.result c.took-tail.ensures.gives.1 second).1
    c.last-last.ensures

pub returns-clause-steps : goal.returns-clause-steps
returns-clause-steps c =
    let core = c.args.core.now in
    let y = c.took-tail.new.core in let z = c.took-link.new.core in
    let second = subst (λ n. TakesStep y c.args.party (LoadLink n) c.took-link.result z) c.tail-node.ensures
    c.took-link.ensures in
    takes-front core c.is_sound.ensures.sound c.args.party c.requires y z c.took-counts.new.core c.took-tail.result
    c.took-link.result c.took-counts.result c.last-last.result c.last-last.ensures c.took-tail.ensures second
    c.took-counts.ensures

pub returns-clause-seen : goal.returns-clause-seen
returns-clause-seen c =
    let core = c.args.core.now in
    let s = c.is_sound.ensures.sound in
    let y = c.took-tail.new.core in let z = c.took-link.new.core in let w = c.took-counts.new.core in
    let second = subst (λ n. TakesStep y c.args.party (LoadLink n) c.took-link.result z) c.tail-node.ensures
    c.took-link.ensures in
    front-seen core s c.args.party c.requires w
    (front-ends core s c.args.party c.requires y z w c.took-link.result c.took-counts.result c.last-last.result
    c.took-tail.ensures.gives.1 second c.took-counts.ensures)
