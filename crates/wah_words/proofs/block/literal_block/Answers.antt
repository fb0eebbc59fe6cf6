use Rattle.std.proofs.Common.{◌≡◌, ◌∙◌, Bool, true, false, ℕ, set, refl, sym, subst, arith, inl, inr, ◌&&◌}
use Rattle.std.specs.Prelude.{IsTrue, slice_index}
use Rattle.std.proofs.Math.ListN.{length-set}
use Rattle.std.proofs.lemmas.List.{get_or-set_same, get_or-set_other}
use Rattle.std.proofs.lemmas.Bool.{cases_lt}
use Rattle.wah_words.specs.Walk.{IsMade}
use Rattle.wah_words.proofs.block.literal_block.Goals as goal

both : (a b : Bool) → IsTrue (a && b) → IsTrue a × IsTrue b
both true b each = (refl, each)
both false b each = cc

pub loop-i-preserved : goal.loop-i-preserved
loop-i-preserved g c =
    let block = c.loop-i.block in
    let i = c.loop-i.i in
    let group = c.made-group.result.0 in
    let made = λ (k z : ℕ).
    IsMade g.O.Operation.of_rows (slice_index c.args.a.now k) (slice_index c.args.b.now k) z in
    record {
      long = simp length-set c.loop-i.invariant.long;
      made = λ each k within.
          let is = both c.loop-i.all_made c.made-group.result.1 each in
          elim (cases_lt k i) [
            | inl before ↦
                subst (made k) (sym (get_or-set_other block i k group 0 (λ same. omega arith)))
                (c.loop-i.invariant.made is.0 k before)
            | inr past ↦
                let here : i ≡ k = omega arith in
                let Q = λ (k : ℕ). made k (slice_index (set block i group) k) in
                subst Q here
                (subst (made i) (sym (get_or-set_same block i group 0 (omega (arith, c.loop-i.invariant.long))))
                (c.made-group.ensures is.1))
          ];
    }

pub returns-then-all_made : goal.returns-then-all_made
returns-then-all_made g c = record {
  left = c.told-a ∙ sym c.loop-i.invariant.long;
  right = c.told-b ∙ sym c.loop-i.invariant.long;
  made = λ k within. c.loop-i.invariant.made c.if-all_made.true k (omega (arith, c.loop-i.invariant.long));
}
