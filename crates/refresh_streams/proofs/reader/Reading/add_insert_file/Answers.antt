use Rattle.refresh_streams.specs.Reading.{insert_says}
use Rattle.refresh_streams.proofs.Makes.{Makes-unopened}
use Rattle.refresh_streams.proofs.reader.Reading.add_insert_file.Goals as goal

pub returns-in-Err-clause-value : goal.returns-in-Err-clause-value
returns-in-Err-clause-value g c =
    let name = c.args.name.now in
    let self = c.args.self.now in
    Makes-unopened _ _ _ name (λ contents. insert_says name) self self c.in-Err.stop c.in-Err.ensures.value
