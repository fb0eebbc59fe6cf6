use Rattle.std.proofs.Common.{◌≤◌, eqb, length, arith}
use Rattle.std.proofs.lemmas.List.{length-take-le}
use Rattle.std.proofs.lemmas.List.Folds.{list_any-append}
use Rattle.wah_words.specs.Group.{unpacked}
use Rattle.wah_words.proofs.Spelled.{length-unpacked}
use Rattle.wah_words.proofs.ToggledRows.{has_contains, has_none, padding_toggled, same_toggled, take_toggled}
use Rattle.wah_words.proofs.laws.toggles.Goals as goal

pub returns : goal.returns
returns c = record {
  has = has_contains;
  same = same_toggled;
  pages = λ old places groups rows within below size is.
      let long : rows ≤ length (unpacked groups) = omega (arith, length-unpacked groups, size) in (
        record { size = size; padding = padding_toggled old (unpacked groups) places rows is within below },
        length-take-le rows (unpacked groups) long,
        take_toggled old (unpacked groups) places rows is within below long,
      );
  parted = λ a b row. list_any-append (λ place. eqb place row) a b;
  absent = has_none;
}
