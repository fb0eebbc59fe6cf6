use Rattle.std.proofs.Common.{◌∙◌, take, sym, ap, subst, arith}
use Rattle.column_bins.specs.declared.column.Column.TheVariants.{Status}
use Rattle.wah_words.specs.Group.{unpacked}
use Rattle.wah_words.specs.Place.{ArePagesOf}
use Rattle.unit_version.specs.Union.{bins_from}
use Rattle.unit_version.specs.declared.content.Content.TheVariants.{Bits}
use Rattle.unit_version.proofs.RowBits.{live_rows-is}
use Rattle.unit_version.proofs.Written.{PageLaws, IsMade-all}
use Rattle.unit_version.proofs.base.columns.finished_live.Goals as goal

pub from_pages-requires : goal.from_pages-requires
from_pages-requires c =
    let laws : PageLaws = record {
      past = c.groups.ensures.past;
      held = c.pages_of_list.ensures.held;
      list = c.pages_of_list.ensures.list;
    } in
    let made = IsMade-all laws Status c.args.table.now (bins_from 0 2) c.args.live (omega arith) c.requires in
    subst (ArePagesOf c.args.live) (sym c.len.ensures.value) made.pages

pub returns : goal.returns
returns c =
    let laws : PageLaws = record {
      past = c.groups.ensures.past;
      held = c.pages_of_list.ensures.held;
      list = c.pages_of_list.ensures.list;
    } in
    let made = IsMade-all laws Status c.args.table.now (bins_from 0 2) c.args.live (omega arith) c.requires in
    ap Bits (c.in_ok-from_pages.ensures ∙ ap (λ n. take n (unpacked c.args.live)) c.len.ensures.value ∙ made.is
    ∙ live_rows-is c.args.table.now)
