use Rattle.std.proofs.Common.{◌≡◌, ℕ, List, ◌+◌, ◌*◌, ◌<◌, ◌∙◌, true, All, length, take, sym, ap, subst, arith}
use Rattle.cubit_base.specs.LiveRow.{tuple_at}
use Rattle.unit_version.specs.Content.{tuples_from}
use Rattle.wah_words.specs.Rows.{true_places}
use Rattle.front_patch.specs.PageAtFront.{tuple_here}
use Rattle.front_patch.specs.Taken.{table_at}
use Rattle.selection.specs.Candidates.{is_candidate_at}
use Rattle.selection.specs.Pages.{AddsUp}
use Rattle.selection.proofs.Paging.{page_places, page-adds, page-below, page-count, page-passes, unpacked-tells}
use Rattle.selection.proofs.Scanned.{seen, kept}
use Rattle.selection.proofs.scan.Scan.add_page.Given.{Over}
use Rattle.selection.proofs.scan.Scan.add_page.Goals.{After-true_places-len}
use Rattle.selection.proofs.scan.Scan.add_page.Goals as goal

-- the places that are written
places : (g : Over) (c : After-true_places-len g) → take c.true_places-len.result c.true_places-len.new.out
    ≡ page_places (is_candidate_at c.args.self.now.predicate) (table_at g.S.Log.CommitLog.terms c.args.self.now.taken)
    c.args.page
places g c =
    c.true_places-len.ensures.places
    ∙ ap (true_places 0)
    (unpacked-tells (is_candidate_at c.args.self.now.predicate)
    (table_at g.S.Log.CommitLog.terms c.args.self.now.taken) c.args.page 3968 c.args.candidates.now
    c.rows_of_groups.ensures.row (omega (arith, c.told-candidates)) c.requires.candidates)

pub add_up-requires-clause-places : goal.add_up-requires-clause-places
add_up-requires-clause-places g c =
    subst (λ (ps : List ℕ). All (λ place. place < 3968) ps)
    (sym (places g (goal.at.add_up-requires-clause-places g c).After-true_places-len))
    (page-below (is_candidate_at c.args.self.now.predicate)
    (table_at g.S.Log.CommitLog.terms c.args.self.now.taken) c.args.page)

pub add_up-requires-clause-candidates : goal.add_up-requires-clause-candidates
add_up-requires-clause-candidates g c k d within =
    let p = c.self.inside.predicate.now in
    let table = table_at g.S.Log.CommitLog.terms c.self.inside.taken.now in
    let written = take c.true_places-len.result c.true_places-len.new.out in
    let are : written ≡ page_places (is_candidate_at p) table c.args.page =
    kept c.self.view_is
    (λ p taken. written ≡ page_places (is_candidate_at p) (table_at g.S.Log.CommitLog.terms taken) c.args.page)
    (places g (goal.at.add_up-requires-clause-candidates g c).After-true_places-len) in
    let below = subst (λ (ps : List ℕ). All (λ place. place < 3968) ps) (sym are)
    (page-below (is_candidate_at p) table c.args.page) in
    let passes = subst (λ (ps : List ℕ). All
    (λ place. is_candidate_at p (tuple_at table (3968 * c.args.page + place)) ≡ true) ps)
    (sym are) (page-passes (is_candidate_at p) table c.args.page) in
    ap (is_candidate_at p) (c.page-tuples.ensures _ (below k d within)) ∙ passes k d within

pub returns-clause-totals : goal.returns-clause-totals
returns-clause-totals g c =
    let terms = g.S.Log.CommitLog.terms in
    let written = take c.true_places-len.result c.true_places-len.new.out in
    seen c.self.view_is
    (λ p taken. AddsUp p (tuples_from (table_at terms taken) (3968 * c.args.page) 3968) c.args.totals.now
    c.add_up.new.totals)
    (page-adds c.self.inside.predicate.now (table_at terms c.self.inside.taken.now) c.args.page
    (tuple_here c.page-tuples.result) written c.args.totals.now c.add_up.new.totals
    (record { all = c.candidates.ensures.all; exact = c.candidates.ensures.exact }) c.self.invariant.tuples
    c.page-tuples.ensures
    (kept c.self.view_is (λ p taken. written ≡ page_places (is_candidate_at p) (table_at terms taken) c.args.page)
    (places g (goal.at.returns-clause-totals g c).After-true_places-len))
    c.add_up.ensures.totals)

pub returns-clause-reads : goal.returns-clause-reads
returns-clause-reads g c =
    c.add_up.ensures.reads
    ∙ ap (λ n. c.args.reads.now + n)
    (ap length (places g (goal.at.returns-clause-reads g c).After-true_places-len)
    ∙ page-count (is_candidate_at c.args.self.now.predicate) (table_at g.S.Log.CommitLog.terms c.args.self.now.taken)
    c.args.page)
