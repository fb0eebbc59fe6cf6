use Rattle.std.proofs.Common.{length}
use Rattle.cubit_cli.proofs.words.+read_run.Given as goal

abbrev pub decreases-read_run : goal.decreases-read_run
decreases-read_run l = length l.words.now
