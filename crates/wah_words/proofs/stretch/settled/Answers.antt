use Rattle.std.proofs.Common.{◌≡◌, ◌+◌, ◌∙◌, sym, ap, arith, drop, get_or, replicate}
use Rattle.std.proofs.lemmas.List.{drop_at, length-replicate}
use Rattle.wah_words.specs.Word.{groups, run_count, run_group}
use Rattle.wah_words.proofs.Paged.{groups-from}
use Rattle.wah_words.proofs.stretch.settled.Goals as goal

pub returns-then-place-of_word-clause-after : goal.returns-then-place-of_word-clause-after
returns-then-place-of_word-clause-after c = λ before after.
    let words = c.args.words.now in
    let v = c.args.place.word in
    let word = get_or words v 0 in
    let count : c.args.place.skipped ≡ run_count word =
    c.if-place-of_word.true ∙ c.of_word.ensures.count in
    let run = replicate (run_count word) (run_group word) in
    record {
      rest =
          sym (drop_at run (groups (drop (v + 1) words)) (run_count word)
          (length-replicate (run_count word) (run_group word)))
          ∙ ap (drop (run_count word)) (sym (groups-from words v c.if-place-words.true))
          ∙ ap (λ n. drop n (groups (drop v words))) (sym count)
          ∙ after.rest;
      inside = omega arith;
      few = omega arith;
    }
