use Rattle.std.proofs.Common.{◌++◌, ◌∷◌, [], ◌∙◌, ap, arith}
use Rattle.wah_words.specs.Word.{groups}
use Rattle.wah_words.proofs.Words.{groups-push_literal}
use Rattle.wah_words.proofs.builder.Builder.push_literal.Goals as goal

pub returns-clause-ok : goal.returns-clause-ok
returns-clause-ok c =
    ap groups c.in_ok-push.ensures.items
    ∙ groups-push_literal c.self.inside.words.items c.args.group (omega arith)
    ∙ ap (λ front. front ++ c.args.group ∷ []) c.self.view_is
