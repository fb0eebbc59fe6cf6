use Rattle.std.proofs.Common.{◌<◌, ◌%◌, ◌^◌, ◌*◌, arith, get_or}
use Rattle.std.proofs.lemmas.Nat.{or_lt, one_shl, pow_below}
use Rattle.wah_words.proofs.Marks.{IsDone, index-le, marked_none, marked_more, rows_done}
use Rattle.wah_words.proofs.places.groups_of_places.Goals as goal

pub loop-place-init : goal.loop-place-init
loop-place-init c = marked_none _ _ c.in_ok-out.ensures

pub loop-place-preserved : goal.loop-place-preserved
loop-place-preserved c =
    let places = c.args.places.now in
    let i = c.loop-place.place-index in
    let bit = get_or places i 0 % 31 in
    let marked = c.loop-place.invariant in
    let before =
    index-le places i c.loop-place.index c.requires.rising (λ none. (marked.first none).0) marked.last (omega arith) in
    let one : 1 * 2 ^ bit % 2 ^ 32 < 2 ^ 31 =
    omega (arith, one_shl bit 32 (omega arith), pow_below bit 31 (omega arith)) in
    marked_more places i c.loop-place.out c.advance.new.out c.loop-place.group c.in_ok-group.group c.loop-place.index
    marked (omega arith) c.in_ok-group.ensures.within
    (omega (arith, c.in_ok-group.ensures.size, marked.size, before)) c.in_ok-group.ensures.rows
    (or_lt 31 c.in_ok-group.group (1 * 2 ^ bit % 2 ^ 32) c.in_ok-group.ensures.within one)

pub returns-clause-places : goal.returns-clause-places
returns-clause-places c =
    let done : IsDone c.args.places.now c.args.rows c.loop-place.place-index c.loop-place.out c.loop-place.group
    c.loop-place.index c.advance-2.new.out c.in_ok-advance.field-0 = record {
      marked = c.loop-place.invariant;
      all = omega arith;
      below = c.requires.below;
      kept = λ none. c.in_ok-advance.ensures.kept (omega (arith, c.group_count-groups.ensures));
      ended = λ some. c.in_ok-advance.ensures.ended (omega (arith, c.group_count-groups.ensures));
      same = c.in_ok-advance.ensures.rows;
    } in
    rows_done _ _ _ _ _ _ _ _ done
