use Rattle.std.proofs.Common.{List, sym, subst}
use Rattle.std.specs.declared.alloc.Global.{Global}
use Rattle.std.specs.declared.vec.Vec.{Vec}
use Rattle.cubit_base.specs.declared.delta.Delta.{Delta}
use Rattle.unit_version.specs.Changes.{AreKeyChanges}
use Rattle.unit_version.specs.declared.changes.keyed.KeyChange.{KeyChange}
use Rattle.unit_version.proofs.changes.Changes.keys_of.Goals as goal

pub returns-clause-keys : goal.returns-clause-keys
returns-clause-keys c =
    let rest = c.args.rest in
    let list = c.index.result.now in
    let own = subst (λ (v : Vec KeyChange Global). AreKeyChanges rest c.self.inside.deltas.value v.items)
    (sym (rw c.from.ensures at c.index.ensures)) (c.self.invariant.keys_are.each rest list c.requires) in
    subst (λ (d : List Delta). AreKeyChanges rest d c.deref.result.now) c.self.view_is
    (subst (λ (changes : List KeyChange). AreKeyChanges rest c.self.inside.deltas.value changes)
    (sym c.deref.ensures.value) own)
