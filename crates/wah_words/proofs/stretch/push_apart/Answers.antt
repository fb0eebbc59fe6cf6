use Rattle.std.proofs.Common.{◌∙◌, ◌++◌, ap, arith}
use Rattle.wah_words.specs.Pages.{underway}
use Rattle.wah_words.proofs.Words.{run_count-fill}
use Rattle.wah_words.proofs.Written.{underway-some}
use Rattle.wah_words.proofs.Stretches.{writes_run}
use Rattle.wah_words.proofs.stretch.push_apart.Goals as goal

pub returns-clause-extends : goal.returns-clause-extends
returns-clause-extends c =
    let fill = c.args.fill in
    record {
      written = underway c.args.run;
      is = c.in_ok-close.ensures;
      writes = writes_run c.args.run fill c.requires.above c.requires.some
          c.requires.apart;
      fill = λ _.
          (c.requires.above, omega (arith, c.requires.some, run_count-fill fill c.requires.above));
    }

pub returns-clause-whole : goal.returns-clause-whole
returns-clause-whole c =
    ap (λ all. all ++ underway c.args.fill) c.in_ok-close.ensures
    ∙ ap (λ last. (c.args.words.now.items ++ underway c.args.run) ++ last)
    (underway-some c.args.fill (omega (arith, c.requires.above)))
