use Rattle.std.proofs.Common.{◌≡◌, ◌+◌, ◌-◌, ◌*◌, ◌∙◌, take, drop, get_or, ap, arith}
use Rattle.std.specs.Prelude.{bit_or}
use Rattle.std.proofs.lemmas.List.{get_or-drop, get_or-take}
use Rattle.unit_version.proofs.Unions.{IsPageOf-none, IsPageOf-more}
use Rattle.unit_version.proofs.base.tile.union_page.Goals as goal

pub loop-bin-init : goal.loop-bin-init
loop-bin-init c rows page has = IsPageOf-none c.args.bins.first page rows

pub loop-bin-preserved : goal.loop-bin-preserved
loop-bin-preserved c rows page has =
    let tile = c.args.tile.now in
    let bin = c.loop-bin.bin in
    let first = 144 * c.from-first.result in
    let size : first + 128 - first ≡ 128 = omega arith in
    let part : take (first + 128 - first) (drop first tile) ≡ take 128 (drop (144 * bin) tile) =
    ap (λ n. take n (drop first tile)) size ∙ ap (λ n. take 128 (drop (144 * n) tile)) c.from-first.ensures in
    IsPageOf-more c.operations.ensures.or c.args.bins.first bin page rows tile c.loop-bin.page c.or_groups.new.page
    (omega arith) (omega arith) (omega arith) has (c.loop-bin.invariant rows page has) c.or_groups.array_long
    (λ k low.
    c.or_groups.ensures k low
    ∙ ap (λ list. bit_or (get_or c.loop-bin.page k 0) (get_or list k 0)) part
    ∙ ap (bit_or (get_or c.loop-bin.page k 0))
    (get_or-take 128 (drop (144 * bin) tile) k 0 low ∙ get_or-drop (144 * bin) tile k 0))

pub returns : goal.returns
returns c rows page has =
    let last : c.loop-bin.bin ≡ c.args.bins.after = omega arith in
    rw (← last) (c.loop-bin.invariant rows page has)
