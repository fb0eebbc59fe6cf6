-- The next command of a script.
use Rattle.std.proofs.Common.{◌≡◌, ℕ, ◌+◌, ◌≤◌, ◌<◌, List, [], ◌∷◌, ◌++◌, length, take, drop, slice_get, All, Some, ap, ◌∙◌, subst, arith}
use Rattle.std.specs.List.{AllZip}
use Rattle.std.proofs.lemmas.List.{take_more, length-take}
use Rattle.std.proofs.lemmas.List.Sums.{sum_by-drop_more, sum_by-append}
use Rattle.std.proofs.lemmas.Option.{slice_get_within, get_or_from_slice_get}
use Rattle.std.proofs.lemmas.Slice.Zip.{AllZip-long}
use Rattle.cubit_base.specs.Command.{weight_of}
use Rattle.cubit_base.specs.declared.command.Command.{Command}
use Rattle.query_report.specs.declared.reply.Reply.{Reply}
use Rattle.refresh_streams.specs.Script.{DropsSomeOrder, weights}

module _ (commands : List Command) (n : ℕ) (command : Command) (is : slice_get commands n ≡ Some command) where
  within : n < length commands
  within = slice_get_within commands n command is

  pub taken-next : take (n + 1) commands ≡ take n commands ++ command ∷ []
  taken-next = take_more commands n command within
      ∙ ap (λ c. take n commands ++ c ∷ []) (get_or_from_slice_get commands n command command is)

  pub weight-next : weights (take (n + 1) commands) ≡ weights (take n commands) + weight_of command
  weight-next =
      let parts = ap weights taken-next ∙ sum_by-append weight_of (take n commands) (command ∷ []) in
      omega (arith, parts)

  pub weight-left : weights (drop n commands) ≡ weight_of command + weights (drop (n + 1) commands)
  weight-left = sum_by-drop_more weight_of commands n command within
      ∙ ap (λ c. weight_of c + weights (drop (n + 1) commands)) (get_or_from_slice_get commands n command command is)

  pub some-order : All DropsSomeOrder commands → DropsSomeOrder command
  some-order all = subst DropsSomeOrder (get_or_from_slice_get commands n command command is) (all n command within)

pub replies-few : (R : Command → Reply → Type 0) (commands : List Command) (n : ℕ) (replies : List Reply) →
    AllZip R (take n commands) replies → length replies ≤ n
replies-few R commands n replies zip =
    let long = AllZip-long R (take n commands) replies zip in
    let few = length-take n commands in
    omega (arith, long, few)
