use Rattle.std.proofs.Common.{[], ◌∷◌}
use Rattle.cubit_base.specs.declared.command.Command.TheVariants.{Insert}
use Rattle.refresh_streams.specs.Reading.{Asks}
use Rattle.refresh_streams.proofs.Rows.{insert_steps-row}
use Rattle.refresh_streams.proofs.reader.Reading.add_row.Goals as goal

pub returns-in-Ok-add-clause-value : goal.returns-in-Ok-add-clause-value
returns-in-Ok-add-clause-value c =
    let row = c.in-Ok.row in record {
      made = Asks c.args.name.now c.args.number (Insert row.0 row.1) ∷ [];
      cut = insert_steps-row c.args.name.now c.args.number c.args.bytes.now row.2.now row.0 row.1 c.in-Ok.ensures;
      progress = c.in-Ok-add.ensures.value;
    }
