use Rattle.std.proofs.Common.{◌∙◌, ap, sym, arith}
use Rattle.wah_words.specs.Group.{unpacked}
use Rattle.wah_words.specs.Word.{groups}
use Rattle.wah_words.specs.Rows.{true_count}
use Rattle.wah_words.proofs.Spelled.{true_count-le-rows, true_count-spelled_rows}
use Rattle.wah_words.proofs.wah.Wah.count.Goals as goal

pub true_rows-total-requires : goal.true_rows-total-requires
true_rows-total-requires c =
    omega (
      arith,
      ap (λ words. true_count (unpacked (groups words))) c.deref.ensures.value,
      true_count-le-rows c.self.inside.words.items c.self.inside.rows c.self.invariant,
    )

pub prove-unreachable-requires : goal.prove-unreachable-requires
prove-unreachable-requires c =
    omega (
      arith,
      ap (λ words. true_count (unpacked (groups words))) c.deref.ensures.value,
      true_count-le-rows c.self.inside.words.items c.self.inside.rows c.self.invariant,
      c.true_rows-total.ensures,
    )

pub returns : goal.returns
returns c =
    c.true_rows-total.ensures
    ∙ ap (λ words. true_count (unpacked (groups words))) c.deref.ensures.value
    ∙ sym (true_count-spelled_rows c.self.inside.words.items c.self.inside.rows c.self.invariant)
    ∙ ap true_count c.self.view_is
