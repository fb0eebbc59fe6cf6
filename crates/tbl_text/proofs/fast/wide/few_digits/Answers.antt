use Rattle.std.proofs.Common.{sym, ap, ◌∙◌, arith}
use lib.Count.{count_trailing_zeros}
use Rattle.tbl_text.specs.Field.{is_digit}
use Rattle.tbl_text.proofs.MaskedRuns.{run_stops}
use Rattle.tbl_text.proofs.fast.wide.few_digits.Goals as goal

pub returns : goal.returns
returns c =
    let others = c.other_lanes-others in
    let stops = run_stops is_digit c.args.bytes.now 0 16 (omega arith) (omega arith) (omega (arith, others.ensures)) in
    sym (stops ∙ ap (count_trailing_zeros 64) (sym others.ensures))
