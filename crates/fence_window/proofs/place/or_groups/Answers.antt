use Rattle.std.proofs.Common.{ℕ, List, take, ◌≡◌, ◌+◌, ◌-◌, ◌++◌, ◌∙◌, [], sym, ap, subst, arith, drop, get_or, length, replicate}
use Rattle.std.proofs.lemmas.List.{length-drop, length-replicate, take_all}
use Rattle.wah_words.specs.Word.{groups, run_count, run_group}
use Rattle.wah_words.specs.Place.{groups_from}
use Rattle.fence_window.specs.Ors.{OrsFrom, OrsAt}
use Rattle.fence_window.proofs.Ors.{ors_from, ors_none, ors_append}
use Rattle.fence_window.proofs.Places.{groups-drop, groups-drop_all, drop_part}
use Rattle.fence_window.proofs.place.or_groups.Goals as goal

pub returns-then-place-words : goal.returns-then-place-words
returns-then-place-words c =
    subst (OrsFrom c.args.out.now c.args.out.now)
    (sym (groups-drop_all c.args.words.now c.args.place.word c.args.place.skipped (omega arith)))
    (ors_from c.args.out.now c.args.out.now [] (ors_none c.args.out.now 0))

pub returns : goal.returns
returns c =
    let words = c.args.words.now in
    let place = c.args.place in
    let word = get_or words place.word 0 in
    let rest = groups (drop (place.word + 1) words) in
    let run = c.of_word-run.result in
    let first = replicate (run.count - place.skipped) run.group in
    let begins : groups_from words place ≡ first ++ rest =
    ap (drop place.skipped) (groups-drop words place.word (omega arith))
    ∙ drop_part place.skipped (run_count word) (run_group word) rest c.requires
    ∙ ap (λ n. replicate (n - place.skipped) (run_group word) ++ rest) (sym c.of_word-run.ensures.count)
    ∙ ap (λ group. replicate (run.count - place.skipped) group ++ rest) (sym c.of_word-run.ensures.group) in
    let after = drop (place.word + 1) words in
    let whole : take (length words - (place.word + 1)) after ≡ after =
    take_all (length words - (place.word + 1)) after (omega (arith, length-drop (place.word + 1) words)) in
    subst (OrsFrom c.args.out.now c.or_words.new.out) (sym begins)
    (ors_from c.args.out.now c.or_words.new.out (first ++ rest)
    (ors_append c.args.out.now c.or_run-at.new.out c.or_words.new.out 0 c.or_run-at.result first rest
    c.or_run-at.ensures.part
    (c.or_run-at.ensures.end ∙ ap (λ n. 0 + n) (sym (length-replicate (run.count - place.skipped) run.group)))
    (subst (λ (ws : List ℕ). OrsAt c.or_run-at.new.out c.or_words.new.out c.or_run-at.result (groups ws)) whole
    c.or_words.ensures)))
