use Rattle.std.proofs.Common.{◌++◌, sym, replicate}
use Rattle.wah_words.specs.Word.{groups}
use Rattle.wah_words.proofs.Moves.{drop_run}
use Rattle.wah_words.proofs.source.Source.skip.Goals as goal

pub returns : goal.returns
returns c =
    let source = c.args.self.now in
    sym (drop_run c.args.count source.run.count source.run.group
    (groups source.words.now ++ replicate source.false_groups 0) c.requires)
