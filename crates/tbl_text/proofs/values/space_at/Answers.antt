use Rattle.std.proofs.Common.{ℕ, ◌<◌, length, sym, arith, eq-eqb}
use Rattle.std.proofs.lemmas.List.Sums.{position_or_len_is}
use Rattle.tbl_text.specs.Values.{is_space}
use Rattle.tbl_text.proofs.Words.{first-word_end}
use Rattle.tbl_text.proofs.values.space_at.Goals as goal

pub returns-then-b-eq32-clause-place : goal.returns-then-b-eq32-clause-place
returns-then-b-eq32-clause-place c =
    let here = eq-eqb _ _ c.if-b-eq32.true in
    sym (position_or_len_is is_space c.args.bytes.now c.loop-at.at 0 (omega arith) c.loop-at.invariant (λ _. here))

pub unreachable-requires : goal.unreachable-requires
unreachable-requires c =
    let none = λ (k : ℕ) (below : k < length c.args.bytes.now). c.loop-at.invariant k (omega arith) in
    let end = position_or_len_is is_space c.args.bytes.now _ 0 (omega arith) none (λ past. absurd (omega arith)) in
    omega (arith, (first-word_end c.args.bytes.now c.requires).below, end)
