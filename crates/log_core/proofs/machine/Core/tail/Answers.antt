use Rattle.std.proofs.Common.{◌≡◌, get_or, arith, rules}
use Rattle.std.proofs.lemmas.List.{get_or_read}
use Rattle.log_core.specs.HeldCore.{core_value}
use Rattle.log_core.proofs.Bounds.{tail-small}
use Rattle.log_core.proofs.machine.Core.tail.Goals as goal

pub overflow_cast-result : goal.overflow_cast-result
overflow_cast-result c =
    let small = tail-small (core_value c.self.inside) c.self.invariant.sound in
    let count = c.self.invariant.sound.word_count in
    let nodes = c.self.invariant.terms.nodes in
    let is : c.index.result.now ≡ get_or c.self.inside.words.items 0 0 =
    get_or_read c.self.inside.words.items 0 c.index.result.now (omega arith) c.index.ensures 0 in
    search (rules, arith)
