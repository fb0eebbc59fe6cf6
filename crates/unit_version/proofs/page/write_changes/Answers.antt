use Rattle.std.proofs.Common.{◌≡◌, ◌≤◌, ℕ, take, get_or, None, ap, subst, inl, inr, arith}
use Rattle.std.proofs.lemmas.Bool.{cases_lt}
use Rattle.unit_version.specs.Changes.{AreHeldThen}
use Rattle.unit_version.specs.declared.changes.row.RowChange.{RowChange}
use Rattle.unit_version.proofs.PageChanges.{AreHeldThen-none, AreHeldThen-more, AreHeldThen-all}
use Rattle.unit_version.proofs.page.write_changes.Goals as goal

pub loop-k-init : goal.loop-k-init
loop-k-init c =
    AreHeldThen-none c.args.first c.args.changes.now c.first_from-from.result c.args.slots.now.items
    c.first_from-from.ensures

pub loop-k-preserved : goal.loop-k-preserved
loop-k-preserved c =
    let changes = c.args.changes.now in
    let k = c.loop-k.k in
    let e = c.index-changes-k.result in
    let within = c.first_from-to.ensures.within in
    let row : e.row ≡ (get_or changes k e).row = ap (λ (c : RowChange). c.row) c.index-changes-k.is in
    let low = c.first_from-from.ensures.behind k e c.loop-k.auto.k (omega arith) in
    let high = c.first_from-to.ensures.before k e c.loop-k-test.true in
    AreHeldThen-more c.args.first changes k e c.args.slots.now.items c.loop-k.slots.items c.requires.rising
    (omega arith)
    c.index-changes-k.is (omega arith) (omega (arith, c.loop-k.invariant.long, c.requires.long)) c.loop-k.invariant

pub returns : goal.returns
returns c =
    let changes = c.args.changes.now in
    let from = c.first_from-from.result in
    let to = c.first_from-to.result in
    let order : from ≤ to = elim (cases_lt to from) [
      | inl less ↦
          let e : RowChange = record { row = 0; before = None; after = None } in
          let within = c.first_from-from.ensures.within in
          let before = c.first_from-from.ensures.before to e less in
          let behind = c.first_from-to.ensures.behind to e (omega arith) (omega arith) in
          absurd (omega arith)
      | inr ok ↦ ok
    ] in
    let end : c.loop-k.k ≡ to = omega (arith, c.loop-k.auto.k-end order) in
    AreHeldThen-all c.args.first changes to c.args.slots.now.items c.loop-k.slots.items c.first_from-to.ensures
    (subst (λ (k : ℕ). AreHeldThen c.args.first 3968 (take k changes) c.args.slots.now.items c.loop-k.slots.items) end
    c.loop-k.invariant)
