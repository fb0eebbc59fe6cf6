use Rattle.unit_version.specs.Columns.{HaveAllPages}
use Rattle.unit_version.proofs.base.columns.written.Given as goal

abbrev pub invariant-loop-page : goal.invariant-loop-page
invariant-loop-page l = HaveAllPages l.table l.page (record {
  live = l.live;
  ship = l.ship;
  disc = l.disc;
  qty = l.qty;
  flag = l.flag;
  status = l.status;
})
