use Rattle.std.proofs.Common.{◌≡◌, ℕ, List, ◌+◌, ◌<◌, ◌∙◌, true, All, length, take, sym, ap, subst, arith}
use Rattle.column_bins.specs.Plan.{has_part}
use Rattle.wah_words.specs.Rows.{true_places}
use Rattle.front_patch.specs.PageAtFront.{tuple_here}
use Rattle.front_patch.specs.Taken.{table_at}
use Rattle.selection.specs.Blocks.{Tells}
use Rattle.selection.specs.Candidates.{is_candidate_at, is_match_at, is_part_at}
use Rattle.selection.proofs.Paging.{unpacked-tells, page_places, page-below, page-count, settled-page}
use Rattle.selection.proofs.Scanned.{seen, kept}
use Rattle.selection.proofs.scan.Scan.settle.Given.{Over}
use Rattle.selection.proofs.scan.Scan.settle.Goals.{After-true_places-len}
use Rattle.selection.proofs.scan.Scan.settle.Goals as goal

pub true_places-len-requires : goal.true_places-len-requires
true_places-len-requires g c = c.requires.part.small

pub drop_others-requires-clause-small : goal.drop_others-requires-clause-small
drop_others-requires-clause-small g c = c.requires.rows.small

pub page-tuples-requires-clause-pages : goal.page-tuples-requires-clause-pages
page-tuples-requires-clause-pages g c =
    let is = c.self.invariant in
    ap (λ plan. plan.pages) is.plan_is ∙ is.pages
    (kept c.self.view_is (λ p taken. has_part p.ship ≡ true) c.requires.cuts)

-- the places that are written
places : (g : Over) (c : After-true_places-len g) → take c.true_places-len.result c.true_places-len.new.out
    ≡ page_places (is_part_at c.args.self.now.predicate) (table_at g.S.Log.CommitLog.terms c.args.self.now.taken)
    c.args.page
places g c =
    c.true_places-len.ensures.places
    ∙ ap (true_places 0)
    (unpacked-tells (is_part_at c.args.self.now.predicate) (table_at g.S.Log.CommitLog.terms c.args.self.now.taken)
    c.args.page 3968 c.args.part.now c.rows_of_groups.ensures.row (omega (arith, c.told-part)) c.requires.part)

pub drop_others-requires-clause-places : goal.drop_others-requires-clause-places
drop_others-requires-clause-places g c =
    subst (λ (ps : List ℕ). All (λ place. place < 3968) ps)
    (sym (places g (goal.at.drop_others-requires-clause-places g c).After-true_places-len))
    (page-below (is_part_at c.args.self.now.predicate) (table_at g.S.Log.CommitLog.terms c.args.self.now.taken)
    c.args.page)

pub returns-clause-rows : goal.returns-clause-rows
returns-clause-rows g c =
    let terms = g.S.Log.CommitLog.terms in
    let page = c.args.page in
    let written = take c.true_places-len.result c.true_places-len.new.out in
    seen c.self.view_is (λ p taken. Tells (is_match_at p) (table_at terms taken) page c.drop_others.new.rows)
    (settled-page c.self.inside.predicate.now (table_at terms c.self.inside.taken.now) page
    (tuple_here c.page-tuples.result) c.args.rows.now c.drop_others.new.rows written
    (record { all = c.candidates.ensures.all; exact = c.candidates.ensures.exact }) c.self.invariant.tuples
    c.told-rows c.drop_others.array_long c.drop_others.ensures.small c.page-tuples.ensures
    (kept c.self.view_is (λ p taken. Tells (is_candidate_at p) (table_at terms taken) page c.args.rows.now)
    c.requires.rows)
    (kept c.self.view_is (λ p taken. written ≡ page_places (is_part_at p) (table_at terms taken) page)
    (places g (goal.at.returns-clause-rows g c).After-true_places-len))
    c.drop_others.ensures.rows)

pub returns-clause-reads : goal.returns-clause-reads
returns-clause-reads g c =
    c.drop_others.ensures.reads
    ∙ ap (λ n. c.args.reads.now + n)
    (ap length (places g (goal.at.returns-clause-reads g c).After-true_places-len)
    ∙ page-count (is_part_at c.args.self.now.predicate) (table_at g.S.Log.CommitLog.terms c.args.self.now.taken)
    c.args.page)
