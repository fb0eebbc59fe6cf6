use Rattle.std.proofs.Common.{sym, ◌∙◌, arith}
use Rattle.log_core.specs.Steps.{linked}
use Rattle.log_core.proofs.Ends.{length-appended}
use Rattle.log_core.proofs.Few.{entries-few}
use Rattle.log_core.proofs.Bounds.{node-words, next-words}
use Rattle.log_core.proofs.Links.{keeps-linked}
use Rattle.log_core.proofs.machine.Core.swap_link.Goals as goal

pub proposed-requires-clause-node : goal.proposed-requires-clause-node
proposed-requires-clause-node c =
    next-words c.args.self.now c.args.party c.args.to c.is_sound.ensures.sound c.requires c.in-Some.ensures.some.next

pub word-requires : goal.word-requires
word-requires c =
    node-words c.args.self.now c.args.node c.in-Some.place c.is_sound.ensures.sound c.in-Some.ensures.some.read.at

pub link-requires-clause-node : goal.link-requires-clause-node
link-requires-clause-node c =
    node-words c.args.self.now c.args.node c.in-Some.place c.is_sound.ensures.sound c.in-Some.ensures.some.read.at

pub link-requires-clause-room : goal.link-requires-clause-room
link-requires-clause-room c =
    let core = c.args.self.now in
    let to = c.args.to in
    let d = c.in-Some-proposed.entry.delta in
    let sound = keeps-linked core c.is_sound.ensures.sound c.args.party c.args.node to c.in-Some.place
    c.in-Some-proposed.entry c.requires c.in-Some.ensures.some c.in-Some-proposed.ensures.some.0
    c.in-Some-proposed.ensures.some.1 (sym c.word.ensures ∙ c.if-word-ne0.false) in
    let few = entries-few (linked core c.args.party c.args.node to c.in-Some.place d) sound in
    omega (arith, length-appended core.chain.history d)

pub link-requires-clause-sound : goal.link-requires-clause-sound
link-requires-clause-sound c =
    keeps-linked c.args.self.now c.is_sound.ensures.sound c.args.party c.args.node c.args.to c.in-Some.place
    c.in-Some-proposed.entry c.requires c.in-Some.ensures.some c.in-Some-proposed.ensures.some.0
    c.in-Some-proposed.ensures.some.1 (sym c.word.ensures ∙ c.if-word-ne0.false)
