use Rattle.std.proofs.Common.{◌≡◌, ◌+◌, ◌∙◌, ap, sym, arith, length, subst, map, not, ◌++◌, replicate}
use Rattle.std.proofs.lemmas.List.{map-append}
use Rattle.std.proofs.lemmas.List.Concat.{flat_map-append}
use Rattle.wah_words.specs.Group.{unpacked, group_rows, group_count}
use Rattle.wah_words.specs.Word.{groups, run_count, run_group}
use Rattle.wah_words.specs.Rows.{cleared}
use Rattle.wah_words.specs.Canonical.{AreRuns}
use Rattle.wah_words.proofs.Words.{AreRuns-front, counted_last, some_run, groups-push, length-groups-push}
use Rattle.wah_words.proofs.Pointwise.{length-turned}
use Rattle.wah_words.proofs.complement.complement.Goals as goal

pub turned-requires : goal.turned-requires
turned-requires c =
    AreRuns-front c.in-Some.front.now c.in-Some.last.now (subst AreRuns c.in-Some.ensures.cases.0 c.requires.runs)

pub push_last_complement-requires-clause-fill : goal.push_last_complement-requires-clause-fill
push_last_complement-requires-clause-fill c =
    counted_last c.in-Some.front.now c.in-Some.last.now (subst AreRuns c.in-Some.ensures.cases.0 c.requires.runs)

pub push_last_complement-requires-clause-some : goal.push_last_complement-requires-clause-some
push_last_complement-requires-clause-some c =
    let counted =
    counted_last c.in-Some.front.now c.in-Some.last.now (subst AreRuns c.in-Some.ensures.cases.0 c.requires.runs) in
    let size : length (groups c.in-Some.front.now) + run_count c.in-Some.last.now ≡ group_count c.args.rows =
    sym (length-groups-push c.in-Some.front.now c.in-Some.last.now)
    ∙ ap (λ words. length (groups words)) (sym c.in-Some.ensures.cases.0) ∙ c.requires.size in
    omega (arith, some_run c.in-Some.last.now counted)

pub push_last_complement-requires-clause-size : goal.push_last_complement-requires-clause-size
push_last_complement-requires-clause-size c =
    let size : length (groups c.in-Some.front.now) + run_count c.in-Some.last.now ≡ group_count c.args.rows =
    sym (length-groups-push c.in-Some.front.now c.in-Some.last.now)
    ∙ ap (λ words. length (groups words)) (sym c.in-Some.ensures.cases.0) ∙ c.requires.size in
    omega (arith, length-turned c.in_ok-out.out (groups c.in-Some.front.now) c.in_ok-out.ensures)

pub returns : goal.returns
returns c =
    let front = groups c.in-Some.front.now in
    let run = replicate (run_count c.in-Some.last.now) (run_group c.in-Some.last.now) in
    let whole : front ++ run ≡ groups c.args.words.now =
    sym (groups-push c.in-Some.front.now c.in-Some.last.now) ∙ ap groups (sym c.in-Some.ensures.cases.0) in
    c.in_ok-push_last_complement.ensures
    ∙ ap (λ rows. cleared c.args.rows (rows ++ map not (unpacked run))) c.in_ok-out.ensures
    ∙ ap (cleared c.args.rows) (sym (map-append not (unpacked front) (unpacked run)))
    ∙ ap (λ rows. cleared c.args.rows (map not rows)) (sym (flat_map-append group_rows front run))
    ∙ ap (λ gs. cleared c.args.rows (map not (unpacked gs))) whole
