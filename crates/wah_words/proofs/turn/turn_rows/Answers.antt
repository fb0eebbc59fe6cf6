use Rattle.std.proofs.Common.{◌≡◌, ◌+◌, ◌-◌, ◌*◌, ◌/◌, ◌%◌, ◌<◌, ◌≤◌, ◌^◌, ◌∙◌, get_or, set, eqb, sym, ap, arith}
use Rattle.std.specs.Prelude.{bit_xor}
use Rattle.std.proofs.Math.ListN.{length-set}
use Rattle.std.proofs.lemmas.List.Elements.{All-set}
use Rattle.std.proofs.lemmas.Nat.{one_shl, xor_lt, pow_below}
use Rattle.wah_words.specs.Group.{group_row}
use Rattle.wah_words.specs.Rows.{differs}
use Rattle.wah_words.proofs.ToggledRows.{page_turned, turned_more, differs-false}
use Rattle.wah_words.proofs.turn.turn_rows.Goals as goal

pub loop-place-init : goal.loop-place-init
loop-place-init c = record {
  size = c.told-page;
  within = c.requires.within;
  rows = λ row inside. sym (differs-false (group_row (get_or c.args.page.now (row / 31) 0) (row % 31)));
}

pub loop-place-preserved : goal.loop-place-preserved
loop-place-preserved c =
    let page = c.loop-place.page in
    let places = c.args.places.now in
    let n = c.loop-place.place-index in
    let place = get_or places n 0 in
    let first = c.args.first in
    let i = (place - first) / 31 in
    let bit = (place - first) % 31 in
    let from : first ≤ place = c.requires.from n 0 (omega arith) in
    let to : place < first + 3968 = c.requires.to n 0 (omega arith) in
    let one : 1 * 2 ^ bit % 2 ^ 32 ≡ 2 ^ bit = omega (arith, one_shl bit 32 (omega arith)) in
    let group = get_or page i 0 in
    let size = c.loop-place.invariant.size in
    record {
      size = length-set page i (bit_xor group (1 * 2 ^ bit % 2 ^ 32)) ∙ size;
      within = All-set (λ g. g < 2 ^ 31) page i (bit_xor group (1 * 2 ^ bit % 2 ^ 32))
          (xor_lt 31 group (1 * 2 ^ bit % 2 ^ 32) (c.loop-place.invariant.within i 0 (omega (arith, size, to)))
          (omega (arith, one, pow_below bit 31 (omega arith)))) c.loop-place.invariant.within;
      rows = λ row inside.
          ap (λ m. group_row (get_or (set page i (bit_xor group m)) (row / 31) 0) (row % 31)) one
          ∙ page_turned page first place row from (omega (arith, size, to))
          ∙ ap (λ value. differs value (eqb place (first + row))) (c.loop-place.invariant.rows row inside)
          ∙ turned_more (group_row (get_or c.args.page.now (row / 31) 0) (row % 31)) places n
          (first + row) c.requires.rising (omega arith);
    }
