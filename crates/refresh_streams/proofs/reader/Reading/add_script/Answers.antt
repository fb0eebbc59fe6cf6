use Rattle.std.proofs.Common.{◌∙◌, ℕ, ◌+◌, List, subst, arith}
use Rattle.tbl_text.specs.Lines.{lines_of}
use Rattle.refresh_streams.specs.Reading.{Contents, Step, line_steps, script_says, Reached}
use Rattle.refresh_streams.proofs.Makes.{Makes-stop, GoesOn-then}
use Rattle.refresh_streams.proofs.Steps.{Reached-more, line_steps-next}
use Rattle.refresh_streams.proofs.reader.Reading.add_script.Goals as goal

pub loop-rest-preserved : goal.loop-rest-preserved
loop-rest-preserved g c =
    let so_far = c.loop-rest.invariant in
    let steps : Contents → List Step =
    λ contents. line_steps (script_says contents c.args.name.now) 1 (lines_of c.args.bytes.now) in
    let n = c.loop-rest.number + 1 in
    let line = c.split_line.result.0.now in
    let others = lines_of c.split_line.result.1.now in record {
      reached = λ contents told.
          let says = script_says contents c.args.name.now in
          let next = line_steps-next says n (lines_of c.loop-rest.rest.now) others line c.split_line.ensures.lines in
          Reached-more (steps contents) (says n line) (line_steps says (n + 1) others) c.args.self.now c.loop-rest.self
          c.add_line.new.self
          (subst (λ s. Reached (steps contents) s c.args.self.now c.loop-rest.self) next (so_far.reached contents told))
          (c.in-Ok.ensures.value contents (so_far.stays ∙ told));
      goes_on = GoesOn-then c.loop-rest.number 1 n _ _ _ (omega arith) so_far.goes_on c.in-Ok.ensures.goes_on;
      lines = omega (arith, so_far.lines, c.split_line.ensures.shorter);
      stays = c.in-Ok.ensures.held ∙ so_far.stays;
      counted = omega (arith, so_far.counted, c.in-Ok.ensures.counted);
    }

pub returns-in-Err-clause-value : goal.returns-in-Err-clause-value
returns-in-Err-clause-value g c =
    let so_far = c.loop-rest.invariant in
    let n = c.loop-rest.number + 1 in
    let line = c.split_line.result.0.now in
    let others = lines_of c.split_line.result.1.now in
    let says : Contents → ℕ → List ℕ → List Step = λ contents. script_says contents c.args.name.now in
    let steps : Contents → List Step = λ contents. line_steps (says contents) 1 (lines_of c.args.bytes.now) in
    Makes-stop (g.F.Files.held c.args.files.now) (g.F.Files.held c.loop-rest.files)
    (g.F.Files.faults c.args.files.now) (g.F.Files.faults c.loop-rest.files) (g.F.Files.faults c.add_line.new.files)
    steps (λ contents. says contents n line) (λ contents. line_steps (says contents) (n + 1) others)
    c.args.self.now c.loop-rest.self c.add_line.new.self c.add_line.new.self c.in-Err.stop so_far.stays so_far.counted
    (λ contents told. subst (λ s. Reached (steps contents) s c.args.self.now c.loop-rest.self)
    (line_steps-next (says contents) n (lines_of c.loop-rest.rest.now) others line c.split_line.ensures.lines)
    (so_far.reached contents told)) c.in-Err.ensures.value
