use Rattle.std.proofs.Common.{[], ◌∷◌, ◌++◌, sym, ◌∙◌, subst, arith}
use Rattle.cubit_session.specs.Step.{setting_of}
use Rattle.cubit_session.specs.Alone.{HasRunAlone}
use Rattle.cubit_session.proofs.Lonely.{Units}
use Rattle.cubit_session.proofs.Reaching.{begins-alone, next}
use Rattle.cubit_session.proofs.laws.alone.Goals as goal

pub returns-clause-none : goal.returns-clause-none
returns-clause-none c = begins-alone

pub returns-clause-next : goal.returns-clause-next
returns-clause-next c = λ terms pages tries command before now told commands replies some room run step owns none stood
    stands.
    let units : Units terms before.store.pages = λ p sum plan first plan_is few. (
      c.units.ensures.are p sum plan first before.store.pages plan_is (omega (arith, few, room, stood)),
      c.units.ensures.count p sum plan first plan_is,
    ) in
    subst (λ n. HasRunAlone (setting_of terms n) now (commands ++ command ∷ []) (replies ++ told ∷ [])) stood
    (next terms tries command before now told commands replies units
    (λ front is. c.prefixes.ensures.rows terms now.log.seen front owns.log is) some
    (subst (λ n. HasRunAlone (setting_of terms n) before commands replies) (sym stood) run) step owns none
    (stands ∙ sym stood))
