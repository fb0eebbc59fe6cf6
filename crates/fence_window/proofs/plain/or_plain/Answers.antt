use Rattle.std.proofs.Common.{◌∙◌, ap, sym, arith, get_or, inl, inr}
use Rattle.std.specs.Prelude.{bit_or}
use Rattle.std.proofs.lemmas.Bool.{cases_lt}
use Rattle.std.proofs.lemmas.List.{get_or_past}
use Rattle.fence_window.proofs.Ors.{or_nothing}
use Rattle.fence_window.proofs.plain.or_plain.Goals as goal

pub returns : goal.returns
returns c = record {
  long = c.loop-i.auto.out;
  each = λ i within.
      elim (cases_lt i c.loop-i.i) [
        | inl before ↦ c.loop-i.invariant.done i before
        | inr after ↦
            c.loop-i.invariant.left i after
            ∙ or_nothing (get_or c.args.out.now i 0)
            ∙ ap (bit_or (get_or c.args.out.now i 0)) (sym (get_or_past c.args.groups.now i 0 (omega arith)))
      ];
}
