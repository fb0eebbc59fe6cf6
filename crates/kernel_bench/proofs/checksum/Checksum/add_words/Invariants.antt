use Rattle.std.proofs.Common.{◌≡◌, drop}
use Rattle.kernel_bench.specs.Mix.{mixed}
use Rattle.kernel_bench.proofs.checksum.Checksum.add_words.Given as goal

abbrev pub invariant-loop-word : goal.invariant-loop-word
invariant-loop-word l = mixed l.initial.mix l.words ≡ mixed l.mix (drop l.word-index l.words)
