use Rattle.std.proofs.Common.{◌≡◌, ℕ, ◌+◌, ◌*◌, ◌<◌, ◌∙◌, ◌&&◌, true, false, refl, sym, arith, count_by}
use Rattle.cubit_base.specs.LiveRow.{tuple_at}
use Rattle.cubit_base.specs.declared.predicate.Predicate.{Predicate}
use Rattle.column_bins.specs.Plan.{has_part}
use Rattle.unit_version.specs.Content.{tuples_from}
use Rattle.front_patch.specs.Bits.{row_in}
use Rattle.front_patch.specs.Taken.{table_at}
use Rattle.selection.specs.Blocks.{Tells}
use Rattle.selection.specs.Candidates.{is_candidate_at, is_cut_at, is_match_at, is_part_at}
use Rattle.selection.specs.Scan.{HasTuples}
use Rattle.selection.proofs.Paging.{no-part, part-turned, tells-match}
use Rattle.selection.proofs.Scanned.{seen, kept}
use Rattle.selection.proofs.Telling.{tells-both, tells-same}
use Rattle.selection.proofs.Tuples.{count-none}
use Rattle.selection.proofs.scan.Scan.matching.Given.{Over}
use Rattle.selection.proofs.scan.Scan.matching.Goals.{After-page_of-rows, After-keep}
use Rattle.selection.proofs.scan.Scan.matching.Goals as goal

-- the candidates of the page
candidates : (g : Over) (c : After-page_of-rows g) →
    Tells (is_candidate_at c.args.self.now.predicate) (table_at g.S.Log.CommitLog.terms c.args.self.now.taken)
    (c.args.block.now.first + c.args.k) c.page_of-rows.result
candidates g c =
    c.page_of-rows.ensures.tells (is_candidate_at c.args.self.now.predicate)
    (table_at g.S.Log.CommitLog.terms c.args.self.now.taken) c.args.block.now.first c.requires.block.candidates

pub keep-requires-clause-small : goal.keep-requires-clause-small
keep-requires-clause-small g c = (candidates g (goal.at.keep-requires-clause-small g c).After-page_of-rows).small

-- no day decides where no month is met in part
no-day : (p : Predicate) (cuts : _) → cuts ≡ has_part p.ship → cuts ≡ false → has_part p.ship ≡ false
no-day p cuts is none = sym is ∙ none

pub returns-then-not-self-clause-rows : goal.returns-then-not-self-clause-rows
returns-then-not-self-clause-rows g c =
    let terms = g.S.Log.CommitLog.terms in
    let page = c.args.block.now.first + c.args.k in
    let is = c.self.invariant in
    let p = c.self.inside.predicate.now in
    let table = table_at terms c.self.inside.taken.now in
    seen c.self.view_is (λ p taken. Tells (is_match_at p) (table_at terms taken) page c.page_of-rows.result)
    (tells-match p table page c.page_of-rows.result
    (record { all = c.candidates.ensures.all; exact = c.candidates.ensures.exact }) is.tuples
    c.page_of-rows.ensures.long
    (λ row within. no-part p p.ship (tuple_at table (3968 * page + row)) refl
    (no-day p c.self.inside.cuts is.cuts_is c.if-not-self.true))
    (kept c.self.view_is (λ p taken. Tells (is_candidate_at p) (table_at terms taken) page c.page_of-rows.result)
    (candidates g (goal.at.returns-then-not-self-clause-rows g c).After-page_of-rows)))

-- what is read where no day decides
none-read : (p : Predicate) (table : _) (page reads : ℕ) →
    ((row : ℕ) → row < 3968 → is_part_at p (tuple_at table (3968 * page + row)) ≡ false) →
    reads ≡ reads + count_by (is_part_at p) (tuples_from table (3968 * page) 3968)
none-read p table page reads none = omega (arith, count-none (is_part_at p) table (3968 * page) 3968 none)

pub returns-then-not-self-clause-reads : goal.returns-then-not-self-clause-reads
returns-then-not-self-clause-reads g c =
    let terms = g.S.Log.CommitLog.terms in
    let page = c.args.block.now.first + c.args.k in
    let reads = c.args.reads.now in
    let p = c.self.inside.predicate.now in
    let table = table_at terms c.self.inside.taken.now in
    seen c.self.view_is
    (λ p taken. reads ≡ reads + count_by (is_part_at p) (tuples_from (table_at terms taken) (3968 * page) 3968))
    (none-read p table page reads (λ row within. no-part p p.ship (tuple_at table (3968 * page + row)) refl
    (no-day p c.self.inside.cuts c.self.invariant.cuts_is c.if-not-self.true)))

-- those of its candidates whose day decides
part : (g : Over) (c : After-keep g) →
    Tells (is_part_at c.args.self.now.predicate) (table_at g.S.Log.CommitLog.terms c.args.self.now.taken)
    (c.args.block.now.first + c.args.k) c.keep.new.groups
part g c =
    let p = c.args.self.now.predicate in
    let table = table_at g.S.Log.CommitLog.terms c.args.self.now.taken in
    let page = c.args.block.now.first + c.args.k in
    let cuts : has_part p.ship ≡ true =
    seen c.self.view_is (λ p taken. has_part p.ship ≡ true) (sym c.self.invariant.cuts_is ∙ c.if-not-self.false) in
    tells-same (λ t. is_cut_at p t && is_candidate_at p t) (is_part_at p) table page c.keep.new.groups (part-turned p)
    (tells-both (is_cut_at p) (is_candidate_at p) table page c.page_of-part.result c.page_of-rows.result
    c.keep.new.groups c.keep.auto.groups (c.page_of-part.ensures.long ∙ sym c.page_of-rows.ensures.long)
    c.keep.ensures.small c.keep.ensures.rows
    (c.page_of-part.ensures.tells (is_cut_at p) table c.args.block.now.first (c.requires.block.cut cuts))
    (c.page_of-rows.ensures.tells (is_candidate_at p) table c.args.block.now.first c.requires.block.candidates))

pub settle-requires-clause-part : goal.settle-requires-clause-part
settle-requires-clause-part g c = part g (goal.at.settle-requires-clause-part g c).After-keep

pub settle-requires-clause-rows : goal.settle-requires-clause-rows
settle-requires-clause-rows g c = candidates g (goal.at.settle-requires-clause-rows g c).After-page_of-rows

-- none of them where none is true
none-part : (g : Over) (c : After-keep g) → ((row : ℕ) → row_in c.keep.new.groups row ≡ false) → (row : ℕ) →
    row < 3968 → is_part_at c.args.self.now.predicate
    (tuple_at (table_at g.S.Log.CommitLog.terms c.args.self.now.taken)
    (3968 * (c.args.block.now.first + c.args.k) + row))
    ≡ false
none-part g c empty row within =
    sym ((part g c).each row (omega (arith, within, c.keep.auto.groups, c.page_of-part.ensures.long))) ∙ empty row

pub returns-then-is_empty-clause-rows : goal.returns-then-is_empty-clause-rows
returns-then-is_empty-clause-rows g c =
    let terms = g.S.Log.CommitLog.terms in
    let page = c.args.block.now.first + c.args.k in
    let at = goal.at.returns-then-is_empty-clause-rows g c in
    tells-match c.args.self.now.predicate (table_at terms c.args.self.now.taken) page c.page_of-rows.result
    (record { all = c.candidates.ensures.all; exact = c.candidates.ensures.exact })
    (seen c.self.view_is (λ p taken. HasTuples (table_at terms taken)) c.self.invariant.tuples)
    c.page_of-rows.ensures.long
    (none-part g at.After-keep (c.is_empty.ensures c.if-is_empty.true))
    (candidates g at.After-page_of-rows)

pub returns-then-is_empty-clause-reads : goal.returns-then-is_empty-clause-reads
returns-then-is_empty-clause-reads g c =
    none-read c.args.self.now.predicate (table_at g.S.Log.CommitLog.terms c.args.self.now.taken)
    (c.args.block.now.first + c.args.k) c.args.reads.now
    (none-part g (goal.at.returns-then-is_empty-clause-reads g c).After-keep (c.is_empty.ensures c.if-is_empty.true))
