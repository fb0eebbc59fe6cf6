use Rattle.std.proofs.Common.{◌≡◌, ◌+◌, ◌*◌, ◌<◌, arith, subst, sym}
use Rattle.std.proofs.Common.{length}
use Rattle.log_core.specs.Chain.{tail, link}
use Rattle.log_core.proofs.Bounds.{node-words, tail-at, tail_link-small}
use Rattle.log_core.proofs.machine.Core.tail_link.Goals as goal

pub word-requires : goal.word-requires
word-requires c =
    let core = c.args.self.now in
    let s = c.is_sound.ensures.sound in
    subst (λ n. 5 * n + 5 < length core.words) (sym c.tail.ensures)
    (node-words core (tail core.words) core.chain.tail_place s (tail-at core s))

pub overflow_cast-result : goal.overflow_cast-result
overflow_cast-result c =
    let core = c.args.self.now in
    let nodes = c.is_sound.ensures.terms.nodes in
    let small = tail_link-small core c.is_sound.ensures.sound in
    let is : c.word.result ≡ link core.words (tail core.words) =
    subst (λ n. c.word.result ≡ link core.words n) c.tail.ensures c.word.ensures in
    omega arith
