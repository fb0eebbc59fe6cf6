use Rattle.std.proofs.lemmas.List.{take_rest}
use Rattle.tbl_text.proofs.Words.{first-word_end}
use Rattle.tbl_text.proofs.values.first_word.Goals as goal

pub returns : goal.returns
returns c =
    let end = first-word_end c.args.bytes.now c.requires in
    rw (c.space_at-at.ensures.place, take_rest) record { cut = end.cut; words = end.words; spaces = end.spaces }
