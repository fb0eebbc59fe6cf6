use Rattle.std.proofs.Common.{sym, subst, arith, take}
use Rattle.std.proofs.lemmas.List.{take_more}
use Rattle.wah_words.specs.Pages.{IsWriting}
use Rattle.wah_words.proofs.Written.{writing_none}
use Rattle.wah_words.proofs.pages.write_any.Goals as goal

pub loop-i-init : goal.loop-i-init
loop-i-init c = record { writing = writing_none c.args.run c.args.out.now c.requires.fill; count = omega arith }

pub loop-i-preserved : goal.loop-i-preserved
loop-i-preserved c =
    let page = c.args.page.now in
    let i = c.loop-i.i in
    record {
      writing =
          subst (λ front. IsWriting c.args.run front c.push.new.out c.push.result.0 c.push.result.1)
          (sym (take_more page i 0 (omega arith)))
          (c.push.ensures.writes c.args.run (take i page) c.loop-i.invariant.writing);
      count = omega (arith, c.push.ensures.count, c.loop-i.invariant.count);
    }
