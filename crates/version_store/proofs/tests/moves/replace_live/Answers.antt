use Rattle.std.proofs.Common.{◌≡◌, Some, take, ap, ◌∙◌, sym, refl}
use Rattle.cubit_base.specs.History.{after}
use Rattle.unit_version.specs.declared.content.Content.{Content}
use Rattle.unit_version.specs.declared.content.Content.TheVariants.{Bits}
use Rattle.version_store.proofs.OneRow.{one-live}
use Rattle.version_store.proofs.tests.moves.replace_live.Goals as goal

pub replace-requires-clause-content : goal.replace-requires-clause-content
replace-requires-clause-content g c =
    let log = (g.S.Log.CommitLog.handle c.args.log.now).seen in
    let table = after g.S.Log.CommitLog.terms.base (take c.args.front.now.len log) in
    ap Bits
    (c.in_ok-make.ensures ∙ c.in_ok-wah.ensures
    ∙ sym (one-live table (c.args.live.0, Some c.args.live.1) (sym c.requires.front.rows ∙ c.requires.rows)
    c.requires.live refl))
