use Rattle.std.proofs.Common.{◌<◌, ◌^◌}
use Rattle.std.specs.Prelude.{All}
use Rattle.fence_window.proofs.Pages.{ArePagesTo}
use Rattle.fence_window.proofs.fenced.tests.pages.plain_of.Given as goal

abbrev pub invariant-loop-number : goal.invariant-loop-number
invariant-loop-number l = record {
  within : All (λ group. group < 2 ^ 31) l.groups.items;
  pages : ArePagesTo l.fenced l.number l.groups.items;
}
