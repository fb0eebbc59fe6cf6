use Rattle.std.proofs.Common.{◌-◌, ◌∙◌, ap, arith}
use Rattle.std.specs.Prelude.{bit_and}
use Rattle.std.proofs.lemmas.Nat.{one_shl, and_mask}
use Rattle.wah_words.specs.Group.{group_rows}
use Rattle.wah_words.proofs.Spelled.{group_rows-mod}
use Rattle.wah_words.proofs.run.first_rows.Goals as goal

pub returns-clause-rows : goal.returns-clause-rows
returns-clause-rows c =
    ap (λ power. group_rows (bit_and c.args.group (power - 1))) (one_shl c.args.rows 32 (omega arith))
    ∙ ap group_rows (and_mask c.args.group c.args.rows)
    ∙ group_rows-mod c.args.group c.args.rows c.requires
