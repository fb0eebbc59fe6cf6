-- Each lawful step of each party leaves a sound core sound.
use Rattle.std.proofs.Common.{◌<◌, ℕ, length, sym, subst, ⊎_elim, arith}
use Rattle.log_core.specs.declared.step.Step.{Step}
use Rattle.log_core.specs.declared.step.Step.TheVariants.{Store, LoadTail, LoadLink, LoadPayload, SwapLink, SwapTail, Note, Join}
use Rattle.log_core.specs.declared.step.Seen.{Seen}
use Rattle.log_core.specs.Core.{CoreValue, IsSound}
use Rattle.log_core.specs.Steps.{Gives, TakesStep}
use Rattle.log_core.proofs.Looks.{keeps-sees, keeps-sees_next, keeps-load_tail, keeps-note}
use Rattle.log_core.proofs.Stores.{keeps-store, keeps-tail_moved, keeps-tail_missed}
use Rattle.log_core.proofs.Links.{keeps-linked}

keeps-gives : (c z : CoreValue) (p : ℕ) (step : Step) (seen : Seen) → IsSound c → p < length c.parties →
    Gives c p step seen z → IsSound z
keeps-gives c z p (Store node word value) seen s inp g =
    subst IsSound (sym g.3) (keeps-store c s p node word value inp g.0 g.1)
keeps-gives c z p LoadTail seen s inp g = subst IsSound (sym g.1) (keeps-load_tail c p s inp)
keeps-gives c z p (LoadLink node) seen s inp g = subst IsSound (sym g.3) (keeps-sees_next c p g.0 s inp)
keeps-gives c z p (LoadPayload node word) seen s inp g = subst IsSound (sym g.4) s
keeps-gives c z p (SwapLink node to) seen s inp g = ⊎_elim
    (λ u. subst IsSound (sym u.2) (keeps-linked c s p node to g.0 g.1 inp g.2 g.3 g.4 u.0))
    (λ u. subst IsSound (sym u.2) (keeps-sees_next c p g.0 s inp))
    g.5
keeps-gives c z p (SwapTail from to) seen s inp g = ⊎_elim
    (λ u. subst IsSound (sym u.2) (keeps-tail_moved c s p from to g.0 inp g.1 u.0))
    (λ u. subst IsSound (sym u.2) (keeps-tail_missed c s p from to g.0 inp g.1 u.0))
    g.2
keeps-gives c z p Note seen s inp g = subst IsSound (sym g.1) (keeps-note c p s inp)
keeps-gives c z p (Join note) seen s inp g =
    let most = s.noted in let le = g.0 in
    subst IsSound (sym g.2) (keeps-sees c p note s inp (omega arith))

pub keeps-sound : (core next : CoreValue) (p : ℕ) (step : Step) (seen : Seen) → IsSound core →
    TakesStep core p step seen next → IsSound next
keeps-sound core next p step seen sound takes = keeps-gives core next p step seen sound takes.party takes.gives
