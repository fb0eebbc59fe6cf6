use Rattle.std.proofs.Common.{◌≡◌, ◌-◌, ◌++◌, ◌∙◌, Bool, false, List, length, replicate, ap, sym, subst, arith}
use Rattle.std.proofs.lemmas.List.{append-nil}
use Rattle.wah_words.specs.declared.place.Place.{Place}
use Rattle.wah_words.specs.Place.{HasFences}
use Rattle.fence_window.proofs.fenced.Fenced.copied.Goals as goal

pub invariant_of-result : goal.invariant_of-result
invariant_of-result c =
    let old = c.self.inside.wah in
    let none : c.len.result - length old ≡ 0 = omega (arith, c.len.ensures) in
    let list : c.in_ok-wah.wah ≡ old =
    c.in_ok-wah.ensures ∙ ap (λ n. old ++ replicate n false) none ∙ append-nil old in
    let fences : c.extend_from_slice.new.self.items ≡ c.self.inside.fences.items =
    c.in_ok-extend_from_slice.ensures.items
    ∙ ap (λ (places : List Place). places ++ c.deref.result.now) c.in_ok-fences.ensures.items
    ∙ c.deref.ensures.value in
    subst (λ (l : List Bool). HasFences l c.extend_from_slice.new.self.items) (sym list)
    (subst (λ (places : List Place). HasFences old places) (sym fences) c.self.invariant)
