use Rattle.std.proofs.Common.{◌≡◌, arith, ap}
use Rattle.log_core.specs.declared.party.Party.{Party}
use Rattle.log_core.specs.Core.{party}
use Rattle.log_core.proofs.Bounds.{next-small}
use Rattle.log_core.proofs.machine.Core.next_node.Goals as goal

pub overflow_add-result : goal.overflow_add-result
overflow_add-result c =
    let core = c.args.self.now in
    let small = next-small core c.args.party c.is_sound.ensures.sound c.is_sound.ensures.terms c.requires.party
    c.requires.node in
    let same : c.party.result.used ≡ (party core c.args.party).used = ap (λ (x : Party). x.used) c.party.ensures in
    let first = c.first_node.ensures.value in
    omega arith
