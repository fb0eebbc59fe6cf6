use Rattle.std.proofs.Common.{◌∷◌, not, ap, ◌∙◌, sym, arith}
use Rattle.std.proofs.lemmas.List.{take_rest}
use Rattle.std.proofs.lemmas.List.Sums.{prefix_len-le-length}
use Rattle.tbl_text.specs.Lines.{is_bar, pieces}
use Rattle.tbl_text.proofs.Bars.{pieces-at_bar, pieces-no_bar}
use Rattle.tbl_text.proofs.careful.next_field.Goals as goal

pub split_at-requires : goal.split_at-requires
split_at-requires c = omega (arith, prefix_len-le-length (λ b. not (is_bar b)) c.args.bytes.now)

pub returns-in-empty : goal.returns-in-empty
returns-in-empty c =
    let cut = c.split_at.ensures in
    record {
      first = pieces-no_bar c.args.bytes.now _ _ _ c.bar_at.ensures cut.front cut.back c.in-empty.len_below;
    }

pub returns-in-len1-up : goal.returns-in-len1-up
returns-in-len1-up c =
    let back = c.split_at.result.1.now in
    let cut = c.split_at.ensures in
    let some = c.in-len1-up.len_at_least in
    let first = pieces-at_bar c.args.bytes.now _ back _ c.bar_at.ensures cut.front cut.back some in
    record { first = λ some. first ∙ ap (λ rest. c.split_at.result.0.now ∷ pieces 124 rest) (sym (take_rest back 1)) }
