-- A store of which one version was replaced.
use Rattle.std.proofs.Common.{◌≡◌, List, sym, ap, subst, ⊎_elim}
use Rattle.std.proofs.lemmas.Bool.Decides.{eqb_tells}
use Rattle.cubit_base.specs.declared.delta.Delta.{Delta}
use Rattle.commit_log.specs.Log.{Terms}
use Rattle.unit_version.specs.Unit.{IsUnit}
use Rattle.unit_version.specs.declared.unit.Unit.{Unit as IndexUnit}
use Rattle.version_store.specs.Memory.{MemoryValue, AreVersions, version_of}
use Rattle.version_store.specs.Place.{place_of}
use Rattle.version_store.specs.Store.{ChangesAt}
use Rattle.version_store.specs.Version.{Version, Fits}
use Rattle.version_store.proofs.Places.{place-apart}

-- where the new version fits, each unit still has a version that does
pub put-fits : (terms : Terms) (log : List Delta) (unit : IndexUnit) (version : Version) (memory later : MemoryValue) →
    AreVersions terms memory log → IsUnit memory.pages unit → Fits terms log unit version →
    ChangesAt memory.pages unit version (version_of memory.versions) (version_of later.versions) →
    later.pages ≡ memory.pages → AreVersions terms later log
put-fits terms log unit version memory later are is fits changes pages other is-other =
    let is-unit : IsUnit memory.pages other = subst (λ n. IsUnit n other) pages is-other in
    ⊎_elim
    (λ same. subst (λ (u : IndexUnit). Fits terms log u (version_of later.versions u))
    (sym (place-apart memory.pages other unit is-unit is same.1))
    (subst (Fits terms log unit) (sym changes.here) fits))
    (λ apart. subst (Fits terms log other)
    (sym (changes.others other is-unit (λ e. apart.1 (ap place_of e)))) (are other is-unit))
    (eqb_tells (place_of other) (place_of unit))
