use Rattle.std.proofs.Common.{◌≤◌, ◌∙◌, sym, get_or, below_more, arith}
use Rattle.std.proofs.lemmas.List.{take_rest}
use Rattle.tbl_text.proofs.Digits.{front_digits, spelled_more, spelled_fits, digit_value}
use Rattle.tbl_text.proofs.fast.front.front_number.Goals as goal

pub returns-else-at-eq0-clause-value : goal.returns-else-at-eq0-clause-value
returns-else-at-eq0-clause-value c =
    let bytes = c.args.bytes.now in
    let all = c.loop-at.invariant in
    let stops = sym c.is_ascii_digit.ensures.value ∙ c.if-not-is_ascii_digit.true in
    front_digits bytes _ c.loop-at.at c.loop-at.number (take_rest bytes c.loop-at.at) (omega arith) all.digits stops
    (omega arith) (omega arith) all.value

pub loop-at-preserved : goal.loop-at-preserved
loop-at-preserved c =
    let all = c.loop-at.invariant in
    let bytes = c.args.bytes.now in
    let at = c.loop-at.at in
    let digit = sym c.is_ascii_digit.ensures.value ∙ c.if-not-is_ascii_digit.false in
    let value : c.from.result ≤ 9 = omega (arith, digit_value (get_or bytes at 0) digit, c.from.ensures) in
    record {
      digits = below_more _ _ all.digits digit;
      value = omega (arith, spelled_more bytes at (omega arith), all.value, c.from.ensures);
      fits = spelled_fits c.loop-at.number c.from.result at all.fits value;
    }
