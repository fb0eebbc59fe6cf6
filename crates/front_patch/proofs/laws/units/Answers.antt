use Rattle.std.proofs.Common.{◌≡◌, ℕ, ◌-◌, Bool, true, false, List, [], ◌∷◌, ◌++◌, length, Contains, Option, Some, None, refl, sym, subst, arith, if◌then◌else◌, length-append}
use Rattle.std.proofs.lemmas.Bool.{false≢true}
use Rattle.std.proofs.lemmas.List.Elements.{Contains-append_left, Contains-append_right}
use Rattle.column_bins.specs.Plan.{stretch_of}
use Rattle.column_bins.specs.declared.column.Column.{Column}
use Rattle.column_bins.specs.declared.column.Column.TheVariants.{Ship, Disc, Qty, Flag, Status}
use Rattle.column_bins.specs.declared.plan_type.Plan.{Plan}
use Rattle.column_bins.specs.declared.plan_type.Stretch.{Stretch}
use Rattle.unit_version.specs.declared.unit.Unit.{Unit as IndexUnit}
use Rattle.unit_version.specs.declared.unit.Unit.TheVariants.{Live, Bin, Page}
use Rattle.front_patch.specs.Planned.{HasBin, run_of, bins_of, is_open, bitvectors_of, units_of, width_of}
use Rattle.front_patch.proofs.Runs.{contains-run, length-run}
use Rattle.front_patch.proofs.laws.units.Goals as goal

has-live : (none : Bool) → none ≡ true → Contains (if none then Live ∷ [] else []) Live
has-live true is = (0, omega arith, refl)
has-live false is = absurd (false≢true is)

has-bin : (column : Column) (stretch : Option Stretch) (s : Stretch) (bin : ℕ) → stretch ≡ Some s → HasBin s bin →
    Contains (bins_of column stretch) (Bin column bin)
has-bin column stretch s bin is has =
    subst (λ (o : Option Stretch). Contains (bins_of column o) (Bin column bin)) (sym is)
    (contains-run (Bin column) s.first (s.after - s.first) bin has.0 (omega (arith, has.0, has.1)))

-- the units up to each column
abbrev lives : Plan → List IndexUnit
lives plan = if is_open plan then Live ∷ [] else []

abbrev ships : Plan → List IndexUnit
ships plan = lives plan ++ bins_of Ship plan.ship

abbrev discs : Plan → List IndexUnit
discs plan = ships plan ++ bins_of Disc plan.disc

abbrev qtys : Plan → List IndexUnit
qtys plan = discs plan ++ bins_of Qty plan.qty

abbrev flags : Plan → List IndexUnit
flags plan = qtys plan ++ bins_of Flag plan.flag

to-all : (plan : Plan) (pages : ℕ) (unit : IndexUnit) → Contains (bitvectors_of plan) unit →
    Contains (units_of plan pages) unit
to-all plan pages unit has = Contains-append_left (bitvectors_of plan) (run_of Page 0 pages) unit has

from-flags : (plan : Plan) (unit : IndexUnit) → Contains (flags plan) unit → Contains (bitvectors_of plan) unit
from-flags plan unit has = Contains-append_left (flags plan) (bins_of Status plan.status) unit has

from-qtys : (plan : Plan) (unit : IndexUnit) → Contains (qtys plan) unit → Contains (bitvectors_of plan) unit
from-qtys plan unit has = from-flags plan unit (Contains-append_left (qtys plan) (bins_of Flag plan.flag) unit has)

from-discs : (plan : Plan) (unit : IndexUnit) → Contains (discs plan) unit → Contains (bitvectors_of plan) unit
from-discs plan unit has = from-qtys plan unit (Contains-append_left (discs plan) (bins_of Qty plan.qty) unit has)

from-ships : (plan : Plan) (unit : IndexUnit) → Contains (ships plan) unit → Contains (bitvectors_of plan) unit
from-ships plan unit has = from-discs plan unit (Contains-append_left (ships plan) (bins_of Disc plan.disc) unit has)

-- the bins of a column among them
bins : (plan : Plan) (column : Column) (unit : IndexUnit) → Contains (bins_of column (stretch_of column plan)) unit →
    Contains (bitvectors_of plan) unit
bins plan Ship unit has = from-ships plan unit (Contains-append_right (lives plan) (bins_of Ship plan.ship) unit has)
bins plan Disc unit has = from-discs plan unit (Contains-append_right (ships plan) (bins_of Disc plan.disc) unit has)
bins plan Qty unit has = from-qtys plan unit (Contains-append_right (discs plan) (bins_of Qty plan.qty) unit has)
bins plan Flag unit has = from-flags plan unit (Contains-append_right (qtys plan) (bins_of Flag plan.flag) unit has)
bins plan Status unit has = Contains-append_right (flags plan) (bins_of Status plan.status) unit has

length-live : (none : Bool) → length (if none then Live ∷ [] else []) ≡ (if none then 1 else 0)
length-live true = refl
length-live false = refl

length-bins : (column : Column) (stretch : Option Stretch) → length (bins_of column stretch) ≡ width_of stretch
length-bins column None = refl
length-bins column (Some s) = length-run (Bin column) s.first (s.after - s.first)

pub returns-clause-live : goal.returns-clause-live
returns-clause-live c plan pages is =
    to-all plan pages Live (from-ships plan Live
    (Contains-append_left (lives plan) (bins_of Ship plan.ship) Live (has-live (is_open plan) is)))

pub returns-clause-bins : goal.returns-clause-bins
returns-clause-bins c plan pages column stretch bin is has =
    to-all plan pages (Bin column bin)
    (bins plan column (Bin column bin) (has-bin column (stretch_of column plan) stretch bin is has))

pub returns-clause-pages : goal.returns-clause-pages
returns-clause-pages c plan pages page within =
    Contains-append_right (bitvectors_of plan) (run_of Page 0 pages) (Page page)
    (contains-run Page 0 pages page (omega arith) (omega (arith, within)))

pub returns-clause-count : goal.returns-clause-count
returns-clause-count c plan pages =
    omega (
      arith,
      length-live (is_open plan),
      length-append (lives plan) (bins_of Ship plan.ship),
      length-append (ships plan) (bins_of Disc plan.disc),
      length-append (discs plan) (bins_of Qty plan.qty),
      length-append (qtys plan) (bins_of Flag plan.flag),
      length-append (flags plan) (bins_of Status plan.status),
      length-append (bitvectors_of plan) (run_of Page 0 pages),
      length-run Page 0 pages,
      length-bins Ship plan.ship,
      length-bins Disc plan.disc,
      length-bins Qty plan.qty,
      length-bins Flag plan.flag,
      length-bins Status plan.status,
    )
