use Rattle.std.proofs.Common.{◌≡◌, ◌<◌, length, map, sym, ap, subst, arith}
use Rattle.column_bins.specs.declared.column.Column.TheVariants.{Ship, Disc, Qty, Flag, Status}
use Rattle.wah_words.specs.Place.{page_count}
use Rattle.unit_version.specs.Columns.{live_rows}
use Rattle.unit_version.specs.RowBins.{row_bin}
use Rattle.unit_version.specs.Tile.{HasPage}
use Rattle.unit_version.proofs.ColumnPages.{HasRoom-pages}
use Rattle.unit_version.proofs.Written.{AreFirstPages-none, AreFirstPages-more, IsPageOf-within}
use Rattle.unit_version.proofs.base.columns.written.Goals as goal

pub loop-page-init : goal.loop-page-init
loop-page-init c = record {
  live_has = rw c.in_ok-live.ensures (AreFirstPages-none (live_rows c.args.table.now));
  ship_has = c.in_ok-ship.ensures c.args.table.now;
  disc_has = c.in_ok-disc.ensures c.args.table.now;
  qty_has = c.in_ok-qty.ensures c.args.table.now;
  flag_has = c.in_ok-flag.ensures c.args.table.now;
  status_has = c.in_ok-status.ensures c.args.table.now;
}

pub write_page-requires : goal.write_page-requires
write_page-requires c =
    let few : c.loop-page.page < 5000 =
    omega (arith, c.loop-page-test.true, c.div_ceil-pages.ensures, c.len.ensures.within) in
    HasRoom-pages c.args.table.now Ship c.loop-page.page c.loop-page.ship c.loop-page.invariant.ship_has few

pub write_page-requires-in-loop-page : goal.write_page-requires-in-loop-page
write_page-requires-in-loop-page c =
    let few : c.loop-page.page < 5000 =
    omega (arith, c.loop-page-test.true, c.div_ceil-pages.ensures, c.len.ensures.within) in
    HasRoom-pages c.args.table.now Disc c.loop-page.page c.loop-page.disc c.loop-page.invariant.disc_has few

pub write_page-requires-in-loop-page-2 : goal.write_page-requires-in-loop-page-2
write_page-requires-in-loop-page-2 c =
    let few : c.loop-page.page < 5000 =
    omega (arith, c.loop-page-test.true, c.div_ceil-pages.ensures, c.len.ensures.within) in
    HasRoom-pages c.args.table.now Qty c.loop-page.page c.loop-page.qty c.loop-page.invariant.qty_has few

pub write_page-requires-in-loop-page-3 : goal.write_page-requires-in-loop-page-3
write_page-requires-in-loop-page-3 c =
    let few : c.loop-page.page < 5000 =
    omega (arith, c.loop-page-test.true, c.div_ceil-pages.ensures, c.len.ensures.within) in
    HasRoom-pages c.args.table.now Flag c.loop-page.page c.loop-page.flag c.loop-page.invariant.flag_has few

pub write_page-requires-in-loop-page-4 : goal.write_page-requires-in-loop-page-4
write_page-requires-in-loop-page-4 c =
    let few : c.loop-page.page < 5000 =
    omega (arith, c.loop-page-test.true, c.div_ceil-pages.ensures, c.len.ensures.within) in
    HasRoom-pages c.args.table.now Status c.loop-page.page c.loop-page.status c.loop-page.invariant.status_has few

pub union_page-requires-clause-within : goal.union_page-requires-clause-within
union_page-requires-clause-within c =
    let both = c.in_ok-write_page-5.ensures c.args.table.now c.loop-page.page c.read_page.ensures.status_are
    c.loop-page.invariant.status_has in
    omega (arith, both.0.whole, ap length c.deref.ensures.value)

pub push_page-requires-clause-within : goal.push_page-requires-clause-within
push_page-requires-clause-within c =
    let table = c.args.table.now in
    let page = c.loop-page.page in
    let both =
    c.in_ok-write_page-5.ensures table page c.read_page.ensures.status_are c.loop-page.invariant.status_has in
    let has = subst (HasPage (map (row_bin Status) table) page) (sym c.deref.ensures.value) both.1 in
    IsPageOf-within c.groups.ensures.within (live_rows table) page c.union_page.result
    (c.union_page.ensures (map (row_bin Status) table) page has)

pub push_page-requires-clause-room : goal.push_page-requires-clause-room
push_page-requires-clause-room c = omega (
  arith,
  c.loop-page.invariant.live_has.long,
  c.loop-page-test.true,
  c.div_ceil-pages.ensures,
  c.len.ensures.within,
)

pub loop-page-preserved : goal.loop-page-preserved
loop-page-preserved c =
    let table = c.args.table.now in
    let page = c.loop-page.page in
    let rows = c.read_page.ensures in
    let before = c.loop-page.invariant in
    let ship = c.in_ok-write_page.ensures table page rows.ship_are before.ship_has in
    let disc = c.in_ok-write_page-2.ensures table page rows.disc_are before.disc_has in
    let qty = c.in_ok-write_page-3.ensures table page rows.qty_are before.qty_has in
    let flag = c.in_ok-write_page-4.ensures table page rows.flag_are before.flag_has in
    let status = c.in_ok-write_page-5.ensures table page rows.status_are before.status_has in
    let has = subst (HasPage (map (row_bin Status) table) page) (sym c.deref.ensures.value) status.1 in
    record {
      live_has = rw c.in_ok-push_page.ensures.ok (AreFirstPages-more (live_rows table) page c.loop-page.live
          c.union_page.result before.live_has (c.union_page.ensures (map (row_bin Status) table) page has));
      ship_has = ship.0;
      disc_has = disc.0;
      qty_has = qty.0;
      flag_has = flag.0;
      status_has = status.0;
    }

pub returns : goal.returns
returns c =
    let pages : c.loop-page.page ≡ page_count (length c.args.table.now) = omega (
      arith,
      c.loop-page-test.false,
      c.loop-page.auto.page-end,
      c.div_ceil-pages.ensures,
      c.len.ensures.value,
    ) in
    rw (← pages) c.loop-page.invariant
