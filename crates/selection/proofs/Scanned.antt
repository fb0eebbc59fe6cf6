-- What a scan is of, as its fields have it and as its callers see it.
use Rattle.std.proofs.Common.{◌≡◌, sym, subst}
use Rattle.cubit_base.specs.declared.predicate.Predicate.{Predicate}
use Rattle.front_patch.specs.Taken.{TakenValue}
use Rattle.selection.specs.Scan.{ScanValue}

pub seen : {Claim : Type 0} {v w : ScanValue Claim} → v ≡ w → (P : Predicate → TakenValue Claim → Type 0) →
    P v.predicate v.taken → P w.predicate w.taken
seen is P has = subst (λ (v : ScanValue _). P v.predicate v.taken) is has

pub kept : {Claim : Type 0} {v w : ScanValue Claim} → v ≡ w → (P : Predicate → TakenValue Claim → Type 0) →
    P w.predicate w.taken → P v.predicate v.taken
kept is P has = seen (sym is) P has
