use Rattle.std.proofs.Common.{◌≡◌, ◌∙◌, ap, sym, arith}
use Rattle.std.proofs.lemmas.List.Elements.{All-rest}
use Rattle.wah_words.specs.Word.{groups}
use Rattle.wah_words.specs.Canonical.{IsCountedFill}
use Rattle.wah_words.proofs.Words.{groups-cons}
use Rattle.wah_words.proofs.cursor.Cursor.refill.Goals as goal

pub invariant_of-self : goal.invariant_of-self
invariant_of-self c =
    record {
      fills =
          All-rest IsCountedFill c.in-Some.word.now c.in-Some.words.now c.args.self.now.words.now
          c.in-Some.ensures.cases.0 c.args.self.now.fills;
    }

pub returns-in-Some-clause-same : goal.returns-in-Some-clause-same
returns-in-Some-clause-same c =
    let none : c.args.self.now.run.count ≡ 0 = omega arith in
    rw (c.of_word-self.ensures.count, c.of_word-self.ensures.group, none)
    (sym (groups-cons c.in-Some.word.now c.in-Some.words.now) ∙ ap groups (sym c.in-Some.ensures.cases.0))
