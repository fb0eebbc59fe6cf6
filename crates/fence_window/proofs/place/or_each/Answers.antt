use Rattle.std.proofs.Common.{length, get_or, take, sym, ap, subst, arith}
use Rattle.std.proofs.lemmas.List.{length-append}
use Rattle.wah_words.specs.Word.{groups, word_groups}
use Rattle.fence_window.specs.Ors.{OrsAt}
use Rattle.fence_window.proofs.Ors.{ors_none, ors_append}
use Rattle.fence_window.proofs.Blocks.{length-word_groups, groups-take_suc}
use Rattle.fence_window.proofs.place.or_each.Goals as goal

pub loop-word-init : goal.loop-word-init
loop-word-init c = record {
  place = omega arith;
  near = omega arith;
  part = ors_none c.args.out.now c.args.from;
}

pub loop-word-preserved : goal.loop-word-preserved
loop-word-preserved c =
    let words = c.args.words.now in
    let i = c.loop-word.word-index in
    let word = get_or words i 0 in
    let is = c.loop-word.invariant in
    let more = groups-take_suc i words c.loop-word-test.true in
    record {
      place = omega (
        arith,
        is.place,
        c.or_word-at.ensures.end,
        ap length more,
        length-append (groups (take i words)) (word_groups word),
        length-word_groups word,
      );
      near = omega (arith, is.near, c.or_word-at.ensures.near);
      part =
          subst (OrsAt c.args.out.now c.or_word-at.new.out c.args.from) (sym more)
          (ors_append c.args.out.now c.loop-word.out c.or_word-at.new.out c.args.from c.loop-word.at
          (groups (take i words)) (word_groups word) is.part is.place c.or_word-at.ensures.part);
    }
