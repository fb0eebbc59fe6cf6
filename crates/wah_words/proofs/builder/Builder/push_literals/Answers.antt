use Rattle.std.proofs.Common.{◌++◌, ◌∙◌, ap}
use Rattle.wah_words.specs.Word.{groups}
use Rattle.wah_words.proofs.Blocks.{groups-push_literals}
use Rattle.wah_words.proofs.builder.Builder.push_literals.Goals as goal

pub returns : goal.returns
returns c =
    ap groups c.in_ok-extend_from_slice.ensures.items
    ∙ groups-push_literals c.self.inside.words.items c.args.block.now c.requires
    ∙ ap (λ front. front ++ c.args.block.now) c.self.view_is
