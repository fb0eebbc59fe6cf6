use Rattle.std.proofs.Common.{◌∙◌, ◌<◌, ◌^◌, ap, subst, sym, arith}
use Rattle.std.proofs.lemmas.List.Elements.{All-from_get_or}
use Rattle.wah_words.specs.Canonical.{AreRuns, AreWords}
use Rattle.wah_words.specs.Group.{unpacked}
use Rattle.wah_words.specs.Word.{groups}
use Rattle.wah_words.proofs.Turned.{AreRuns-turned, unpacked-turned_words}
use Rattle.wah_words.proofs.builder.Builder.turned.Goals as goal

pub invariant_of-result : goal.invariant_of-result
invariant_of-result c =
    let within : AreWords c.args.words.now =
    All-from_get_or (λ w. w < 2 ^ 32) c.args.words.now 0 (λ k inside. omega (arith, c.type_inv.words k)) in
    subst AreRuns (sym c.in_ok-turned_words.ensures) (AreRuns-turned c.args.words.now within c.requires)

pub returns : goal.returns
returns c =
    let within : AreWords c.args.words.now =
    All-from_get_or (λ w. w < 2 ^ 32) c.args.words.now 0 (λ k inside. omega (arith, c.type_inv.words k)) in
    ap (λ words. unpacked (groups words)) c.in_ok-turned_words.ensures
    ∙ unpacked-turned_words c.args.words.now within
