use Rattle.std.proofs.Common.{ℕ, List, ◌≡◌, ◌+◌, ◌-◌, ◌∙◌, sym, ap, subst, arith, drop, length, take}
use Rattle.std.proofs.lemmas.List.{drop-drop, length-drop, take_all}
use Rattle.wah_words.specs.Word.{groups}
use Rattle.wah_words.specs.Front.{IsFront}
use Rattle.fence_window.proofs.Blocks.{groups-drop_front}
use Rattle.fence_window.proofs.place.advanced.Goals as goal

pub returns-clause-rest : goal.returns-clause-rest
returns-clause-rest c =
    let words = c.args.words.now in
    let place = c.args.place in
    let left = place.skipped + c.args.groups in
    let count = c.front_within-front.result.words in
    let group_count = c.front_within-front.result.groups in
    let after = drop place.word words in
    let whole : take (length words - place.word) after ≡ after =
    take_all (length words - place.word) after (omega (arith, length-drop place.word words)) in
    let front = subst (λ (ws : List ℕ). IsFront ws left count group_count) whole c.front_within-front.ensures.front in
    sym (drop-drop c.args.groups place.skipped (groups after)
    ∙ groups-drop_front after left count group_count front
    ∙ ap (λ rest. drop (left - group_count) (groups rest)) (drop-drop count place.word words))
