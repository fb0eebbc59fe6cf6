use Rattle.std.proofs.Common.{◌≡◌, ℕ, ◌+◌, ◌*◌, ◌<◌, get_or, length, arith}
use Rattle.std.proofs.lemmas.Grind.{common_steps}
use Rattle.selection.proofs.Telling.{tells-page}
use Rattle.selection.proofs.groups.page_of.Goals as goal

pub returns-clause-tells : goal.returns-clause-tells
returns-clause-tells c test table first tells =
    let page = c.copy_from_slice.new.self in
    let are : (i : ℕ) → i < 128 → get_or page i 0 ≡ get_or c.args.groups.now (128 * c.args.k + i) 0 =
    λ i within. grind (arith, common_steps) in
    let long : length page ≡ 128 = grind (arith, common_steps) in
    tells-page test table first c.args.k c.args.groups.now page (omega (arith, c.requires, c.told-groups)) long are
    tells
