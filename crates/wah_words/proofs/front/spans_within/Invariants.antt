use Rattle.std.proofs.Common.{◌≡◌, drop}
use Rattle.wah_words.specs.Front.{IsFront}
use Rattle.wah_words.proofs.front.spans_within.Given as goal

abbrev pub invariant-loop : goal.invariant-loop
invariant-loop l = record { front : IsFront l.words l.most l.at l.groups; rest : l.rest ≡ drop l.at l.words }
