use Rattle.std.proofs.Common.{◌≡◌, ℕ, ◌∙◌, not, Bool, true, false, List, [], ◌∷◌, cond, Some, None, refl, sym, ap, arith}
use Rattle.std.proofs.lemmas.Bool.{and_right}
use Rattle.std.proofs.lemmas.List.Sums.{sum_by-cons}
use Rattle.cubit_base.specs.History.{after}
use Rattle.cubit_base.specs.Table.{Row}
use Rattle.cubit_base.specs.declared.predicate.Predicate.{Predicate}
use Rattle.column_bins.specs.Plan.{has_part, is_candidate, is_in_part}
use Rattle.selection.specs.Candidates.{is_part_at, part_count}
use Rattle.selection.proofs.Parts.{none-part}
use Rattle.selection.proofs.tests.worked.counts_unread.Goals as goal

part-of-none : (p : Predicate) (r : Row) → has_part p.ship ≡ false → is_part_at p r.1 ≡ false
part-of-none p (key, None) none = refl
part-of-none p (key, Some t) none = and_right (is_candidate p t) (is_in_part p t) (none-part p.ship t.day none)

count-of-none : (p : Predicate) (table : List Row) → has_part p.ship ≡ false → part_count p table ≡ 0
count-of-none p [] none = refl
count-of-none p (r ∷ table) none =
    omega (
      arith,
      sum_by-cons (λ r. cond (is_part_at p r.1) 1 0) r table,
      ap {B = ℕ} (λ b. cond b 1 0) (part-of-none p r none),
      count-of-none p table none,
    )

false-of : (b : Bool) → not b ≡ true → b ≡ false
false-of true is = sym is
false-of false is = refl

pub returns-clause-reads : goal.returns-clause-reads
returns-clause-reads g c whole =
    let p = c.args.predicate.now in
    let table = after g.S.Log.CommitLog.terms.base (g.S.Log.CommitLog.handle c.count.new.log).seen in
    omega (
      arith,
      c.in_ok-told.ensures.reads,
      count-of-none p table (sym c.plan-whole.ensures.pages ∙ false-of c.plan-whole.result.pages whole),
    )
