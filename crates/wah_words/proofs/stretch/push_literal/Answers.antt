use Rattle.std.proofs.Common.{◌∙◌, ◌++◌, [], ◌∷◌, ap, arith, replicate, subst, sym}
use Rattle.std.proofs.lemmas.List.{append_assoc}
use Rattle.wah_words.specs.Pages.{underway, Writes}
use Rattle.wah_words.proofs.Written.{writes_literal}
use Rattle.wah_words.proofs.stretch.push_literal.Goals as goal

pub returns-clause-extends : goal.returns-clause-extends
returns-clause-extends c =
    let run = c.args.run in
    let group = c.args.literal.group in
    record {
      written = underway run ++ group ∷ [];
      is =
          c.in_ok-push.ensures.items
          ∙ ap (λ front. front ++ group ∷ []) c.in_ok-close.ensures
          ∙ append_assoc c.args.words.now.items (underway run) (group ∷ []);
      writes = subst (λ n. Writes run (replicate n group) (underway run ++ group ∷ []) 0) (sym c.requires.one)
          (writes_literal run group c.requires.some_true c.requires.some_false);
      fill = λ none. absurd (omega arith);
    }
