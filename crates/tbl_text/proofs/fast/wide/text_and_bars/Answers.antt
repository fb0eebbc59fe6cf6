use Rattle.std.proofs.Common.{◌≡◌, ◌<◌, ◌%◌, ◌^◌, ◌+◌, count_by, sym, ap, ◌∙◌, take, arith}
use Rattle.std.proofs.lemmas.List.{length-take}
use Rattle.std.proofs.lemmas.List.Sums.{count_by-le-length}
use Rattle.std.proofs.lemmas.Nat.{trailing_le}
use Rattle.std.specs.Int.RustNames.{count_ones}
use lib.Count.{count_trailing_zeros}
use lib.Lanes.{chunk}
use Rattle.tbl_text.specs.Field.{is_text_byte}
use Rattle.tbl_text.specs.Lines.{is_bar}
use Rattle.tbl_text.proofs.MaskedRuns.{failed, run_through, run_stops, bars_more, bars_last}
use Rattle.tbl_text.proofs.fast.wide.text_and_bars.Goals as goal

pub returns-then-odd-ne0-clause-len : goal.returns-then-odd-ne0-clause-len
returns-then-odd-ne0-clause-len c =
    let odd = c.odd_lanes-odd in
    let bytes = c.args.bytes.now in
    let at = c.loop-at.at in
    let some : 0 < failed is_text_byte (chunk at 64 bytes) = omega (arith, odd.ensures) in
    let stops = run_stops is_text_byte bytes at 64 (omega arith) (omega arith) some in
    omega (arith, stops ∙ ap (count_trailing_zeros 64) (sym odd.ensures), c.loop-at.invariant.text)

pub returns-then-odd-ne0-clause-bars : goal.returns-then-odd-ne0-clause-bars
returns-then-odd-ne0-clause-bars c =
    let len = count_trailing_zeros 64 c.odd_lanes-odd.result in
    let last = bars_last c.args.bytes.now c.loop-at.at 64 len (trailing_le 64 c.odd_lanes-odd.result) in
    let ones = ap (λ m. count_ones (m % 2 ^ len)) c.bar_lanes-bar.ensures in
    omega (arith, last, c.ones_below.ensures.value, ones, c.loop-at.invariant.bars)

pub loop-at-preserved : goal.loop-at-preserved
loop-at-preserved c =
    let bytes = c.args.bytes.now in
    let at = c.loop-at.at in
    let run = run_through is_text_byte bytes at 64 (omega arith) (omega (arith, c.odd_lanes-odd.ensures)) in
    let front = take (at + 64) bytes in
    let bars : c.loop-at.bars + count_ones c.bar_lanes-bar.result ≡ count_by is_bar front =
    omega (arith, bars_more bytes at 64, ap count_ones c.bar_lanes-bar.ensures, c.loop-at.invariant.bars) in
    record {
      text = omega (arith, run, c.loop-at.invariant.text);
      bars = bars;
      few = omega (arith, bars, count_by-le-length is_bar front, length-take (at + 64) bytes);
      within = omega arith;
    }
