use Rattle.std.proofs.Common.{sym, ◌∙◌}
use Rattle.shared_log.proofs.Made.{made-shows, front-has}
use Rattle.shared_log.proofs.laws.cores.Goals as goal

pub returns : goal.returns
returns c = record {
  made = λ terms. (c.nodes.ensures.made terms, made-shows terms);
  one = λ a b words views sa sb same x y. c.chains.ensures.one a b sa sb same (x.words_are ∙ sym y.words_are);
  front = front-has c.chains.ensures.loaded;
}
