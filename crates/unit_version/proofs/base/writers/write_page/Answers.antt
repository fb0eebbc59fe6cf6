use Rattle.std.proofs.Common.{◌∙◌, length, map, ap, arith}
use Rattle.std.proofs.lemmas.List.{with_items_is}
use Rattle.column_bins.specs.Column.{bin_count}
use Rattle.unit_version.specs.Content.{one_bin}
use Rattle.unit_version.specs.RowBins.{row_bin}
use Rattle.unit_version.specs.Tile.{ArePushed, HasPage}
use Rattle.unit_version.specs.Union.{union_at, union_count}
use Rattle.unit_version.proofs.RowBits.{few-bins}
use Rattle.unit_version.proofs.Written.{AreWritten-more, HasPage-filled, tile-within}
use Rattle.unit_version.proofs.base.writers.write_page.Goals as goal

pub push_bins-requires-clause-few : goal.push_bins-requires-clause-few
push_bins-requires-clause-few c =
    omega (arith, few-bins c.args.column, c.requires.bins, ap length c.deref_mut-2.ensures.value)

pub push_bins-requires-clause-whole : goal.push_bins-requires-clause-whole
push_bins-requires-clause-whole c =
    omega (
      arith,
      c.requires.tile,
      c.requires.bins,
      ap length c.deref_mut-2.ensures.value,
      ap length c.deref_mut.ensures.value,
      c.fill.auto.tile,
      c.deref.ensures.len,
    )

pub push_bins-requires-clause-within : goal.push_bins-requires-clause-within
push_bins-requires-clause-within c =
    let long = c.fill.auto.tile ∙ c.deref_mut.ensures.len in
    let tile = c.deref.ensures.value ∙ with_items_is c.args.writer.now.tile c.fill.new.tile long in
    rw tile (tile-within c.groups.ensures.within c.args.bins.now c.fill.new.tile c.fill.ensures)

pub push_bins-requires-clause-room : goal.push_bins-requires-clause-room
push_bins-requires-clause-room c = rw c.deref_mut-2.ensures.value c.requires.few

pub returns : goal.returns
returns c table page are before =
    let rows = map (row_bin c.args.column) table in
    let writer = c.args.writer.now in
    let has : HasPage rows page c.fill.new.tile =
    HasPage-filled rows c.args.bins.now c.fill.new.tile page are c.fill.ensures in
    let tile_long = c.fill.auto.tile ∙ c.deref_mut.ensures.len in
    let bins_long = c.push_bins.auto.lists ∙ c.deref_mut-2.ensures.len in
    let unions_long = c.push_unions.auto.unions ∙ c.deref_mut-3.ensures.len in
    let tile = with_items_is writer.tile c.fill.new.tile tile_long in
    let bins = with_items_is writer.bins c.push_bins.new.lists bins_long in
    let unions = with_items_is writer.unions c.push_unions.new.unions unions_long in
    let bins_pushed : ArePushed one_bin c.fill.new.tile (length writer.bins.items) writer.bins.items
    c.push_bins.new.lists =
    rw (c.deref.ensures.value ∙ tile, c.deref_mut-2.ensures.value) at c.in_ok-push_bins.ensures in
    let unions_pushed : ArePushed (union_at c.args.column) c.fill.new.tile (length writer.unions.items)
    writer.unions.items c.push_unions.new.unions =
    rw (c.deref-2.ensures.value ∙ tile, c.deref_mut-3.ensures.value) at c.in_ok-push_unions.ensures in (
      record {
        whole = rw tile (c.fill.auto.tile ∙ ap length c.deref_mut.ensures.value ∙ before.whole);
        bins = rw bins (AreWritten-more rows one_bin page (bin_count c.args.column) c.fill.new.tile writer.bins.items
            c.push_bins.new.lists before.bins has bins_pushed);
        unions = rw unions (AreWritten-more rows (union_at c.args.column) page (union_count c.args.column)
            c.fill.new.tile writer.unions.items c.push_unions.new.unions before.unions has unions_pushed);
      },
      rw tile has,
    )
