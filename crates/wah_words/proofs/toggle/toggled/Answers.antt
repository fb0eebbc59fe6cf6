use Rattle.std.proofs.Common.{◌≡◌, ◌∙◌, ◌-◌, ◌*◌, ◌<◌, ◌++◌, ℕ, ap, arith, get_or, length, replicate, sym}
use Rattle.std.proofs.lemmas.List.{length-append, length-replicate}
use Rattle.wah_words.specs.Group.{group_count}
use Rattle.wah_words.specs.Source.{source_left}
use Rattle.wah_words.specs.Word.{groups}
use Rattle.wah_words.proofs.Toggled.{toggled_all, toggled_none, toggled_on}
use Rattle.wah_words.proofs.ToggledRows.{rows_toggled}
use Rattle.wah_words.proofs.toggle.toggled.Goals as goal

pub loop-place-init : goal.loop-place-init
loop-place-init c =
    toggled_none _ _ c.in_ok-out.out (source_left c.new-source.result) c.in_ok-out.ensures
    (c.new-source.ensures
    ∙ ap (λ n. groups c.args.words.now ++ replicate n 0)
    (let same : c.group_count-groups.result - c.group_count.result
    ≡ group_count c.args.rows - group_count c.args.old_rows =
    omega (arith, c.group_count-groups.ensures, c.group_count.ensures) in same))

pub loop-place-preserved : goal.loop-place-preserved
loop-place-preserved c =
    let more = group_count c.args.rows - group_count c.args.old_rows in
    let all = groups c.args.words.now ++ replicate more 0 in
    let place = get_or c.args.places.now c.loop-place.place-index 0 in
    let long : length all ≡ group_count c.args.rows =
    omega (
      arith,
      length-append (groups c.args.words.now) (replicate more 0),
      length-replicate {A = ℕ} more 0,
      c.requires.canonical.size,
      c.requires.longer,
    ) in
    let below : place < 31 * length all =
    omega (arith, long, c.requires.below c.loop-place.place-index 0 (omega arith)) in
    toggled_on all c.args.places.now c.loop-place.place-index c.loop-place.out (source_left c.loop-place.source)
    c.loop-place.mask c.loop-place.index c.advance.new.out (source_left c.advance.new.source) c.in_ok-mask.mask
    c.requires.rising (omega arith) below c.loop-place.invariant c.in_ok-mask.ensures.within
    c.in_ok-mask.ensures.moved

pub returns-clause-rows : goal.returns-clause-rows
returns-clause-rows c =
    let more = group_count c.args.rows - group_count c.args.old_rows in
    let all = groups c.args.words.now ++ replicate more 0 in
    let long : length all ≡ c.group_count-groups.result =
    omega (
      arith,
      length-append (groups c.args.words.now) (replicate more 0),
      length-replicate {A = ℕ} more 0,
      c.requires.canonical.size,
      c.requires.longer,
      c.group_count-groups.ensures,
    ) in
    rows_toggled c.args.words.now c.args.old_rows more c.args.places.now c.advance-2.new.out c.requires.canonical
    (toggled_all all c.args.places.now c.loop-place.place-index c.loop-place.out (source_left c.loop-place.source)
    c.loop-place.mask c.loop-place.index c.advance-2.new.out (source_left c.advance-2.new.source)
    c.in_ok-advance.field-0 (omega arith) c.loop-place.invariant
    (rw (sym long) at c.in_ok-advance.ensures.moved))
