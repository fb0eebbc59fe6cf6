use Rattle.std.proofs.Common.{◌≤◌, ◌<◌, length, refl, sym, arith}
use Rattle.tbl_text.specs.Values.{words_of}
use Rattle.refresh_streams.proofs.Words.{length-words_of, query_of-many, query_of-few}
use Rattle.refresh_streams.proofs.script_line.query_of.Goals as goal

pub returns-then-fields-gt5 : goal.returns-then-fields-gt5
returns-then-fields-gt5 c =
    let count = length-words_of c.args.rest.now in
    let many : 5 < length (words_of c.args.rest.now) = omega (arith, count, c.requires.fields, c.if-fields-gt5.true) in
    sym (query_of-many (words_of c.args.rest.now) many)

pub returns-in-Some : goal.returns-in-Some
returns-in-Some c =
    let count = length-words_of c.args.rest.now in
    let few : length (words_of c.args.rest.now) ≤ 5 = omega (arith, count, c.requires.fields, c.if-fields-gt5.false) in
    rw (query_of-few (words_of c.args.rest.now) few, sym c.in-Some.ensures) refl

pub returns-in-None : goal.returns-in-None
returns-in-None c =
    let count = length-words_of c.args.rest.now in
    let few : length (words_of c.args.rest.now) ≤ 5 = omega (arith, count, c.requires.fields, c.if-fields-gt5.false) in
    rw (query_of-few (words_of c.args.rest.now) few, sym c.in-None.ensures) refl
