use Rattle.std.proofs.Common.{◌∷◌, ap}
use Rattle.tbl_text.specs.Lines.{lines_of}
use Rattle.refresh_streams.specs.Reading.{Opens, line_steps, script_says}
use Rattle.refresh_streams.proofs.Makes.{Makes-file, Makes-unopened}
use Rattle.refresh_streams.proofs.reader.Reading.add_script_file.Goals as goal

pub returns-in-Ok-clause-value : goal.returns-in-Ok-clause-value
returns-in-Ok-clause-value g c =
    let name = c.args.name.now in
    Makes-file _ _ _ _ _ name _ (λ contents. line_steps (script_says contents name) 1 (lines_of c.in-Ok.bytes.items))
    _ _ _ c.in-Ok.ensures.held c.in-Ok.ensures.counted
    (λ contents told. ap (λ s. Opens name ∷ s) (c.in-Ok.ensures.value contents told (script_says contents name)))
    (rw c.deref.ensures.value at c.add_script.ensures.value)

pub returns-in-Err-clause-value : goal.returns-in-Err-clause-value
returns-in-Err-clause-value g c =
    let name = c.args.name.now in
    let self = c.args.self.now in
    Makes-unopened _ _ _ name (λ contents. script_says contents name) self self c.in-Err.stop c.in-Err.ensures.value
