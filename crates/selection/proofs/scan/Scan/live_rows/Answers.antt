use Rattle.std.proofs.Common.{◌≡◌, ◌+◌, ◌*◌, ◌<◌, ◌∙◌, ◌-◌, true, refl, sym, ap, arith, inl, inr, map, get_or, is_some}
use Rattle.std.proofs.lemmas.Bool.{cases_lt}
use Rattle.unit_version.specs.Content.{is_live}
use Rattle.wah_words.specs.Group.{group_at}
use Rattle.front_patch.specs.Planned as planned
use Rattle.front_patch.specs.Taken.{table_at}
use Rattle.selection.specs.Blocks.{Tells}
use Rattle.column_bins.specs.Plan.{is_open}
use Rattle.selection.proofs.Planning.{open-plan}
use Rattle.selection.proofs.Scanned.{seen, kept}
use Rattle.selection.proofs.Telling.{GroupLaws, tells-list}
use Rattle.selection.proofs.scan.Scan.live_rows.Goals as goal

pub window-requires-clause-planned : goal.window-requires-clause-planned
window-requires-clause-planned g c =
    let is = c.self.invariant in
    let predicate = c.self.inside.predicate.now in
    let none : is_open predicate ≡ true = kept c.self.view_is (λ p taken. is_open p ≡ true) c.requires.open in
    c.units.ensures.live c.self.inside.taken.now.plan c.self.inside.taken.now.pages
    (ap planned.is_open is.plan_is ∙ open-plan predicate c.self.inside.plan.now is.stretches ∙ none)

pub loop-k-preserved : goal.loop-k-preserved
loop-k-preserved g c =
    let list = map is_live (table_at g.S.Log.CommitLog.terms c.self.inside.taken.now) in
    let k = c.loop-k.k in
    record {
      long = c.put_page.array_long;
      few = omega (arith, c.loop-k-test.true);
      done = λ i within. elim (cases_lt i (128 * k)) [
        | inl before ↦ c.put_page.ensures.before i before ∙ c.loop-k.invariant.done i before
        | inr here ↦
            let at = i - 128 * k in
            let number : 128 * k + at ≡ i = omega (arith, here) in
            let low : at < 128 = omega (arith, here, within) in
            ap (λ n. get_or c.put_page.new.groups n 0) (sym number) ∙ c.put_page.ensures.page at low
            ∙ c.window.ensures at low
            ∙ ap (group_at list) (omega (arith, here))
      ];
    }

pub returns : goal.returns
returns g c =
    let terms = g.S.Log.CommitLog.terms in
    let laws : GroupLaws = record { within = c.groups.ensures.within; row = c.groups.ensures.row } in
    seen c.self.view_is (λ p taken. Tells is_some (table_at terms taken) c.args.first c.loop-k.rows)
    (tells-list is_live is_some (table_at terms c.self.inside.taken.now) c.args.first 4096 c.loop-k.rows laws
    (λ r. refl) refl c.loop-k.invariant.long
    (λ i within. c.loop-k.invariant.done i (omega (arith, within, c.loop-k-test.false, c.loop-k.auto.k-end))))
