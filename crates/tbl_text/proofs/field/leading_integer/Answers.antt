use Rattle.std.proofs.Common.{arith}
use Rattle.std.proofs.lemmas.List.Sums.{prefix_len-le-length}
use Rattle.tbl_text.specs.Field.{is_digit}
use Rattle.tbl_text.proofs.Digits.{AllPass-leading_digits, front_read}
use Rattle.tbl_text.proofs.field.leading_integer.Goals as goal

pub split_at-requires : goal.split_at-requires
split_at-requires c = omega (arith, prefix_len-le-length is_digit c.args.bytes.now)

pub spelled-requires-clause-digits : goal.spelled-requires-clause-digits
spelled-requires-clause-digits c =
    rw (c.split_at.ensures.front, c.digit_count.ensures) (AllPass-leading_digits c.args.bytes.now)

pub returns-in-1-to-10-clause-value : goal.returns-in-1-to-10-clause-value
returns-in-1-to-10-clause-value c =
    front_read c.args.bytes.now _ _ _ _ c.digit_count.ensures c.split_at.ensures.front c.split_at.ensures.back
    (omega arith) (omega arith) c.spelled.ensures.value
