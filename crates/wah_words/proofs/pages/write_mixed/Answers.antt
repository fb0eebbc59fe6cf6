use Rattle.std.proofs.Common.{◌≡◌, ◌%◌, ◌^◌, ◌∙◌, [], ap, sym, subst, arith, take}
use Rattle.std.specs.Prelude.{bit_and}
use Rattle.std.proofs.lemmas.Nat.{and_mask}
use Rattle.std.proofs.lemmas.List.{take_more}
use Rattle.wah_words.specs.Pages.{IsWriting, false_run}
use Rattle.wah_words.proofs.Written.{writing_none, false_run-count}
use Rattle.wah_words.proofs.pages.write_mixed.Goals as goal

pub loop-i-init : goal.loop-i-init
loop-i-init c =
    let run = c.args.run in
    let zeros : bit_and run 1073741823 ≡ run % 2 ^ 30 = and_mask run 30 in
    record {
      writing =
          subst (λ next. IsWriting run [] c.args.out.now 0 next)
          (sym (ap false_run zeros ∙ false_run-count run c.requires.fill c.requires.false_fill))
          (writing_none run c.args.out.now c.requires.fill);
      count = omega (arith, zeros);
    }

pub loop-i-preserved : goal.loop-i-preserved
loop-i-preserved c =
    let page = c.args.page.now in
    let i = c.loop-i.i in
    record {
      writing =
          subst (λ front. IsWriting c.args.run front c.push_mixed.new.out c.push_mixed.result.0
          (false_run c.push_mixed.result.1))
          (sym (take_more page i 0 (omega arith)))
          (c.push_mixed.ensures.writes c.args.run (take i page) c.loop-i.invariant.writing);
      count = omega (arith, c.push_mixed.ensures.count, c.loop-i.invariant.count);
    }
