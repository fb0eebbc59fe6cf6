use Rattle.std.proofs.Common.{◌≡◌, ◌+◌, ◌*◌, arith, rules, subst, sym, set}
use Rattle.log_core.specs.Core.{IsSound}
use Rattle.log_core.specs.Steps.{IsNextNode}
use Rattle.log_core.proofs.Bounds.{next-words}
use Rattle.log_core.proofs.Stores.{keeps-store}
use Rattle.log_core.proofs.machine.Core.store.Goals as goal

pub set_word-requires-clause-within : goal.set_word-requires-clause-within
set_word-requires-clause-within c =
    let core = c.args.self.now in
    let next : IsNextNode core c.args.party c.args.node = c.is_next_node.ensures.0 (search rules) in
    let within = next-words core c.args.party c.args.node c.is_sound.ensures.sound c.requires next in
    omega arith

pub set_word-requires-clause-sound : goal.set_word-requires-clause-sound
set_word-requires-clause-sound c =
    let core = c.args.self.now in
    let next : IsNextNode core c.args.party c.args.node = c.is_next_node.ensures.0 (search rules) in
    let word : c.from.result ≡ c.args.word = search rules in
    subst (λ w. IsSound (record core { words = set core.words (5 * c.args.node + w + 1) c.args.value })) (sym word)
    (keeps-store core c.is_sound.ensures.sound c.args.party c.args.node c.args.word c.args.value c.requires next
    (omega arith))
