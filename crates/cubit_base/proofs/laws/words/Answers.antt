use Rattle.cubit_base.proofs.Words.{tuple-from_word}
use Rattle.cubit_base.proofs.EntryWords.{entry-from_words}
use Rattle.cubit_base.proofs.laws.words.Goals as goal

pub returns : goal.returns
returns c = record { tuple = tuple-from_word; entry = entry-from_words }
