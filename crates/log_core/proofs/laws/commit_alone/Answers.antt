use Rattle.std.proofs.Common.{◌≡◌, ◌++◌, ◌∷◌, [], ap, sym, refl, ◌∙◌, subst}
use Rattle.cubit_base.specs.declared.delta.Delta.{Delta}
use Rattle.log_core.specs.Chain.{tail}
use Rattle.log_core.specs.Core.{CoreValue}
use Rattle.log_core.specs.Steps.{IsNextNode}
use Rattle.log_core.specs.Run.{stores, loads, helps, helped, appends, IsLawfulRun, EndsIn, TakesCommit}
use Rattle.log_core.proofs.Runs.{known-lawful, known-end}
use Rattle.log_core.proofs.Stages.{stored_answers, loaded_answers, appended_answers, plan}
use Rattle.log_core.proofs.laws.commit_alone.Goals as goal

pub run-requires : goal.run-requires
run-requires c =
    let core = c.args.core.now in let p = c.args.party in
    let n = c.next_node-node.result in let t = c.tail-tail.result in let m = c.tail_link-link.result in
    let last = c.last-last.result in let e = c.next_entry-entry.result in
    let g = plan core p n t m last e c.is_sound.ensures.sound c.requires.party
    (subst (λ q. IsNextNode core q n) c.from.ensures c.next_node-node.ensures)
    c.next_entry-entry.ensures.fits c.requires.room c.next_entry-entry.ensures.next c.tail-tail.ensures
    c.tail_link-link.ensures c.last-last.ensures in
    subst (λ s. IsLawfulRun core p s) (sym c.stores-stores.ensures)
    (known-lawful p core core g.one (stores n e) stored_answers refl g.to_one)

pub run-requires-2 : goal.run-requires-2
run-requires-2 c =
    let core = c.args.core.now in let p = c.args.party in
    let n = c.next_node-node.result in let t = c.tail-tail.result in let m = c.tail_link-link.result in
    let last = c.last-last.result in let e = c.next_entry-entry.result in
    let g = plan core p n t m last e c.is_sound.ensures.sound c.requires.party
    (subst (λ q. IsNextNode core q n) c.from.ensures c.next_node-node.ensures)
    c.next_entry-entry.ensures.fits c.requires.room c.next_entry-entry.ensures.next c.tail-tail.ensures
    c.tail_link-link.ensures c.last-last.ensures in
    let one : c.run.new.core ≡ g.one = known-end p core core g.one c.run.new.core (stores n e) stored_answers refl
    g.to_one (subst (λ s. EndsIn core p s c.run.new.core) c.stores-stores.ensures c.run.ensures) in
    known-lawful p g.one c.run.new.core g.two (loads t) (loaded_answers t m) one g.to_two

pub help-requires : goal.help-requires
help-requires c =
    let core = c.args.core.now in let p = c.args.party in
    let n = c.next_node-node.result in let t = c.tail-tail.result in let m = c.tail_link-link.result in
    let last = c.last-last.result in let e = c.next_entry-entry.result in
    let g = plan core p n t m last e c.is_sound.ensures.sound c.requires.party
    (subst (λ q. IsNextNode core q n) c.from.ensures c.next_node-node.ensures)
    c.next_entry-entry.ensures.fits c.requires.room c.next_entry-entry.ensures.next c.tail-tail.ensures
    c.tail_link-link.ensures c.last-last.ensures in
    let one : c.run.new.core ≡ g.one = known-end p core core g.one c.run.new.core (stores n e) stored_answers refl
    g.to_one (subst (λ s. EndsIn core p s c.run.new.core) c.stores-stores.ensures c.run.ensures) in
    let two : c.run-2.new.core ≡ g.two = known-end p g.one c.run.new.core g.two c.run-2.new.core (loads t)
    (loaded_answers t m) one g.to_two c.run-2.ensures in
    known-lawful p g.two c.run-2.new.core g.three (helps t m) (helped m) two g.to_three

pub run-requires-3 : goal.run-requires-3
run-requires-3 c =
    let core = c.args.core.now in let p = c.args.party in
    let n = c.next_node-node.result in let t = c.tail-tail.result in let m = c.tail_link-link.result in
    let last = c.last-last.result in let e = c.next_entry-entry.result in
    let g = plan core p n t m last e c.is_sound.ensures.sound c.requires.party
    (subst (λ q. IsNextNode core q n) c.from.ensures c.next_node-node.ensures)
    c.next_entry-entry.ensures.fits c.requires.room c.next_entry-entry.ensures.next c.tail-tail.ensures
    c.tail_link-link.ensures c.last-last.ensures in
    let one : c.run.new.core ≡ g.one = known-end p core core g.one c.run.new.core (stores n e) stored_answers refl
    g.to_one (subst (λ s. EndsIn core p s c.run.new.core) c.stores-stores.ensures c.run.ensures) in
    let two : c.run-2.new.core ≡ g.two = known-end p g.one c.run.new.core g.two c.run-2.new.core (loads t)
    (loaded_answers t m) one g.to_two c.run-2.ensures in
    let three : c.help.new.core ≡ g.three = known-end p g.two c.run-2.new.core g.three c.help.new.core (helps t m)
    (helped m) two g.to_three c.help.ensures in
    known-lawful p g.three c.help.new.core g.four (appends last n) appended_answers three g.to_four

pub returns : goal.returns
returns c =
    let core = c.args.core.now in let p = c.args.party in
    let n = c.next_node-node.result in let t = c.tail-tail.result in let m = c.tail_link-link.result in
    let last = c.last-last.result in let e = c.next_entry-entry.result in
    let g = plan core p n t m last e c.is_sound.ensures.sound c.requires.party
    (subst (λ q. IsNextNode core q n) c.from.ensures c.next_node-node.ensures)
    c.next_entry-entry.ensures.fits c.requires.room c.next_entry-entry.ensures.next c.tail-tail.ensures
    c.tail_link-link.ensures c.last-last.ensures in
    let one : c.run.new.core ≡ g.one = known-end p core core g.one c.run.new.core (stores n e) stored_answers refl
    g.to_one (subst (λ s. EndsIn core p s c.run.new.core) c.stores-stores.ensures c.run.ensures) in
    let two : c.run-2.new.core ≡ g.two = known-end p g.one c.run.new.core g.two c.run-2.new.core (loads t)
    (loaded_answers t m) one g.to_two c.run-2.ensures in
    let three : c.help.new.core ≡ g.three = known-end p g.two c.run-2.new.core g.three c.help.new.core (helps t m)
    (helped m) two g.to_three c.help.ensures in
    let four : c.run-3.new.core ≡ g.four = known-end p g.three c.help.new.core g.four c.run-3.new.core (appends last n)
    appended_answers three g.to_four c.run-3.ensures in
    let delta = c.next_entry-entry.ensures.delta in
    record {
      steps = subst (λ z. TakesCommit core p c.args.delta.now z) (sym four) (
        n,
        t,
        m,
        e,
        subst (λ q. IsNextNode core q n) c.from.ensures c.next_node-node.ensures,
        c.next_entry-entry.ensures.next,
        delta,
        g.whole,
      );
      history = ap (λ (x : CoreValue). x.chain.history) four ∙ g.history
          ∙ ap (λ (d : Delta). core.chain.history ++ d ∷ []) delta;
      nodes = ap (λ (x : CoreValue). x.chain.nodes) four ∙ g.nodes
          ∙ ap (λ k. core.chain.nodes ++ k ∷ []) (sym (ap (λ (x : CoreValue). tail x.words) four ∙ g.ends));
    }
