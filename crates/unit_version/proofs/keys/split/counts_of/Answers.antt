use Rattle.std.proofs.Common.{ℕ, zero, ◌<◌, ◌≤◌, replicate, arith}
use Rattle.std.specs.Prelude.{slice_index}
use Rattle.std.proofs.lemmas.List.{get_or-replicate}
use Rattle.unit_version.proofs.keys.split.counts_of.Goals as goal

pub loop-row-init : goal.loop-row-init
loop-row-init c =
    let none : (rest : ℕ) → rest < 64 → slice_index (replicate 64 zero) rest ≤ 0 =
    λ rest low. omega (arith, get_or-replicate 64 rest zero zero low) in
    none
