use Rattle.std.proofs.Common.{arith}
use Rattle.refresh_streams.proofs.Words.{words_of-one, behind-last}
use Rattle.refresh_streams.proofs.script_line.words_ask.Goals as goal

pub returns-then-spaces-eq0-clause-value : goal.returns-then-spaces-eq0-clause-value
returns-then-spaces-eq0-clause-value c =
    let one = words_of-one c.args.line.now (omega (arith, c.space_count-spaces.ensures, c.if-spaces-eq0.true)) in
    rw (one, behind-last c.args.line.now) c.word_asks.ensures.value
