-- The rounds of a command.
use Rattle.std.specs.Prelude.{ℕ, zero, suc, ◌≡◌, ◌-◌, ◌%◌, Bool, List, length, take, drop}
use Rattle.kernel_bench.specs.Checksum.{Adds}
use Rattle.kernel_bench.specs.Kernel.{Makes}
use Rattle.kernel_bench.specs.declared.checksum.Checksum.{Checksum}
use Rattle.kernel_bench.specs.declared.kernel.Kernel.{Kernel}
use Rattle.kernel_bench.specs.declared.kernel.Outcome.{Outcome}

-- all lists but the last, or all but the first, as a mix chooses
abbrev pub chosen : ℕ → List (List Bool) → List (List Bool)
chosen mix lists = take (length lists - 1) (drop (mix % 2) lists)

-- one round took the checksum from the old to the new
pub record IsRound (kernel : Kernel) (lists : List (List Bool)) (old new : Checksum) : Type 0 where
  pub outcome : Outcome
  pub makes : Makes kernel (chosen old.mix lists) outcome
  pub adds : Adds old new outcome

-- the checksum is what so many rounds make
abbrev pub IsAfterRounds : ℕ → Kernel → List (List Bool) → Checksum → Type 0
IsAfterRounds zero kernel lists checksum = (checksum.words ≡ 0) × (checksum.mix ≡ 0)
IsAfterRounds (suc rounds) kernel lists checksum =
    (before : Checksum) × IsAfterRounds rounds kernel lists before × IsRound kernel lists before checksum
