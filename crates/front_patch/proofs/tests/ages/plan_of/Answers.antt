use Rattle.std.proofs.Common.{◌≡◌, ℕ, ◌<◌, ◌≤◌, Option, Some, None, IfSome, subst, arith}
use Rattle.column_bins.specs.declared.column.Column.TheVariants.{Ship, Disc, Qty, Flag, Status}
use Rattle.column_bins.specs.declared.plan_type.Stretch.{Stretch}
use Rattle.front_patch.specs.Planned.{HasBin}
use Rattle.front_patch.proofs.tests.ages.plan_of.Goals as goal

below : (o : Option Stretch) (s : Stretch) (bin most : ℕ) → IfSome o (λ s. s.after ≤ most) → o ≡ Some s → HasBin s bin →
    bin < most
below o s bin most within is has =
    let last : s.after ≤ most = subst (λ (o : Option Stretch). IfSome o (λ s. s.after ≤ most)) is within in
    omega (arith, last, has.1)

pub returns : goal.returns
returns c Ship s bin is has = below c.args.ship s bin 84 c.requires.ship is has
returns c Disc s bin is has = below c.args.disc s bin 11 c.requires.disc is has
returns c Qty s bin is has = below c.args.qty s bin 50 c.requires.qty is has
returns c Flag s bin is has = below None s bin 3 tt is has
returns c Status s bin is has = below None s bin 2 tt is has
