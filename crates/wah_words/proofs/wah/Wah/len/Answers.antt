use Rattle.std.proofs.Common.{◌∙◌, ap, sym, length}
use Rattle.wah_words.proofs.Spelled.{length-spelled_rows}
use Rattle.wah_words.proofs.wah.Wah.len.Goals as goal

pub returns : goal.returns
returns c = sym (length-spelled_rows _ _ c.self.invariant) ∙ ap length c.self.view_is
