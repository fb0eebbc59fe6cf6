use Rattle.std.proofs.Common.{length, get_or, take, drop, sym, ap, subst, arith}
use Rattle.std.proofs.lemmas.List.{length-append}
use Rattle.wah_words.specs.Word.{groups, word_groups}
use Rattle.fence_window.specs.Ors.{OrsAt}
use Rattle.fence_window.proofs.Ors.{ors_none, ors_append, ors_full}
use Rattle.fence_window.proofs.Blocks.{length-word_groups, groups-parted, groups-take_suc}
use Rattle.fence_window.proofs.place.or_one_by_one.Goals as goal

pub loop-word-init : goal.loop-word-init
loop-word-init c = record {
  place = omega arith;
  part = ors_none c.args.out.now c.args.from;
}

pub returns-then-at-out : goal.returns-then-at-out
returns-then-at-out c =
    let words = c.args.words.now in
    let n = c.loop-word.word-index in
    subst (OrsAt c.args.out.now c.loop-word.out c.args.from) (sym (groups-parted n words))
    (ors_full c.args.out.now c.loop-word.out c.args.from c.loop-word.at (groups (take n words))
    (groups (drop n words)) c.loop-word.invariant.part c.loop-word.invariant.place c.if-at-out.true)

pub loop-word-preserved : goal.loop-word-preserved
loop-word-preserved c =
    let words = c.args.words.now in
    let i = c.loop-word.word-index in
    let word = get_or words i 0 in
    let is = c.loop-word.invariant in
    let more = groups-take_suc i words c.loop-word-test.true in
    record {
      place = omega (
        arith,
        is.place,
        c.or_word-at.ensures.end,
        ap length more,
        length-append (groups (take i words)) (word_groups word),
        length-word_groups word,
      );
      part =
          subst (OrsAt c.args.out.now c.or_word-at.new.out c.args.from) (sym more)
          (ors_append c.args.out.now c.loop-word.out c.or_word-at.new.out c.args.from c.loop-word.at
          (groups (take i words)) (word_groups word) is.part is.place c.or_word-at.ensures.part);
    }
