use Rattle.std.proofs.Common.{◌≤◌, ◌++◌, List, ℕ, ap, length, arith, inl, inr, refl, replicate, subst}
use Rattle.std.proofs.lemmas.Bool.{cases_lt}
use Rattle.std.proofs.lemmas.Nat.{xor_lt}
use Rattle.wah_words.specs.Moves.{Moves, first_toggled}
use Rattle.wah_words.specs.Source.{source_left}
use Rattle.wah_words.specs.Word.{groups}
use Rattle.wah_words.proofs.Moves.{moves_toggled}
use Rattle.wah_words.proofs.source.Source.move_toggled.Goals as goal

pub push_group-requires-clause-within : goal.push_group-requires-clause-within
push_group-requires-clause-within c =
    xor_lt 31 c.refill.new.self.run.group c.args.mask c.refill.new.self.run.within c.requires.within

pub returns : goal.returns
returns c =
    let source = c.refill.new.self in
    let some : 1 ≤ source.run.count =
    elim (cases_lt 0 source.run.count) [
      | inl some ↦ some
      | inr none ↦ absurd (omega (
        arith,
        ap length (c.refill.ensures.end (omega arith)),
        ap length c.refill.ensures.same,
        c.requires.some,
      ))
    ] in
    let out = c.args.out.now in
    let mask = c.args.mask in
    subst (λ (left : List ℕ). Moves out (first_toggled mask left) c.push_group.new.self (source_left c.skip.new.self) 1)
    c.refill.ensures.same
    (moves_toggled out (source_left source) (groups source.words.now ++ replicate source.false_groups 0)
    c.push_group.new.self (source_left c.skip.new.self) source.run.group source.run.count mask
    some refl c.in_ok-push_group.ensures.ok c.skip.ensures)
