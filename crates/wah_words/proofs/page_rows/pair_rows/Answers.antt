use Rattle.std.proofs.Common.{◌≡◌, ◌+◌, ◌*◌, ◌%◌, ◌^◌, ◌∙◌, ap, arith}
use Rattle.wah_words.specs.Group.{low_bits}
use Rattle.wah_words.proofs.PageRows.{pair_rows}
use Rattle.wah_words.proofs.page_rows.pair_rows.Goals as goal

pub returns-clause-rows : goal.returns-clause-rows
returns-clause-rows c =
    let sum : c.from.result + c.from-2.result * 2147483648 % 18446744073709551616
    ≡ c.args.low + c.args.high * 2 ^ 31 =
    omega (arith, c.from.ensures, c.from-2.ensures, c.requires.high) in
    ap (low_bits 62) sum ∙ pair_rows c.args.low c.args.high c.requires.low
