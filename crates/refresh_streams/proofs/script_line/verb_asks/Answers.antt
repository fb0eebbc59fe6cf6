use Rattle.std.proofs.Common.{◌≤◌, length, refl, arith}
use Rattle.tbl_text.specs.Values.{words_of}
use Rattle.refresh_streams.proofs.Words.{length-words_of, merge_of-some}
use Rattle.refresh_streams.proofs.script_line.verb_asks.Goals as goal

pub returns-in-Merge-clause-value : goal.returns-in-Merge-clause-value
returns-in-Merge-clause-value c =
    let count = length-words_of c.args.rest.now in
    let some : 1 ≤ length (words_of c.args.rest.now) = omega (arith, count) in
    rw (c.in-Merge.is, merge_of-some (words_of c.args.rest.now) some) refl
