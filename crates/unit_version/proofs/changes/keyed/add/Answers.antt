use Rattle.std.proofs.Common.{◌≡◌, ◌∙◌, [], ◌∷◌, ◌++◌, sym}
use Rattle.unit_version.specs.Entry.{code_of}
use Rattle.unit_version.specs.Span.{tag_of}
use Rattle.unit_version.proofs.KeyTags.{AreKeyTags-more}
use Rattle.unit_version.proofs.changes.keyed.add.Goals as goal

pub returns : goal.returns
returns c deltas long are =
    let d = c.args.delta.now in
    let list = c.index_mut-list.result.now in
    let pushed : c.push.new.self.items ≡ list.items ++ tag_of (code_of d.key) c.args.place ∷ [] =
    rw (c.tag_of.ensures, c.code_of.ensures.value) at c.in_ok-push.ensures.items in
    AreKeyTags-more deltas d c.args.lists.now.items c.from.result c.args.place list c.push.new.self (sym long)
    c.ranges.place.fits c.code_of.ensures.line (c.from.ensures ∙ c.rest_of.ensures) c.index_mut-list.ensures.value
    pushed are
