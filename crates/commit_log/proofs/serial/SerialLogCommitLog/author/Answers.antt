use Rattle.std.proofs.Common.{◌≡◌, List, All, length, ap, ◌∙◌, sym, subst, refl}
use Rattle.std.specs.List.{range_with_len}
use Rattle.std.proofs.lemmas.List.{length-map}
use Rattle.std.proofs.lemmas.List.Elements.{All-map}
use Rattle.cubit_base.specs.declared.delta.Delta.{Delta}
use Rattle.commit_log.specs.Handle.{places_by}
use Rattle.commit_log.specs.StoredDelta.{delta_of}
use Rattle.commit_log.specs.Serial.{SerialValue}
use Rattle.commit_log.proofs.Owning.{all-places}
use Rattle.commit_log.proofs.serial.SerialLogCommitLog.author.Goals as goal

pub returns-clause-own : goal.returns-clause-own
returns-clause-own g c =
    subst (λ (log : List Delta). All (λ d. d.author ≡ 0) log) (ap (λ (x : SerialValue). x.seen) c.self.view_is)
    (All-map (λ (d : Delta). d.author ≡ 0) delta_of c.self.inside.entries.items (λ k e lt. refl))

pub returns-clause-mine : goal.returns-clause-mine
returns-clause-mine g c =
    let entries = c.self.inside.entries.items in
    subst (λ (log : List Delta). places_by 0 log ≡ range_with_len 0 (length log))
    (ap (λ (x : SerialValue). x.seen) c.self.view_is)
    (all-places 0 entries ∙ ap (range_with_len 0) (sym (length-map entries delta_of)))
