use Rattle.unit_version.specs.Content.{AreContents}
use Rattle.unit_version.specs.declared.unit.Unit.TheVariants as unit
use Rattle.unit_version.proofs.base.page_contents.Given as goal

abbrev pub invariant-loop-page : goal.invariant-loop-page
invariant-loop-page l = AreContents unit.Page l.table l.page l.contents.items
