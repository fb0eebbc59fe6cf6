use Rattle.log_core.proofs.Grown.{takes-grows}
use Rattle.log_core.proofs.Keeping.{keeps-sound}
use Rattle.log_core.proofs.Same.{takes-one}
use Rattle.log_core.proofs.laws.steps.Goals as goal

pub returns : goal.returns
returns c = record { sound = keeps-sound; one = takes-one c.words.ensures.entry; grows = takes-grows }
