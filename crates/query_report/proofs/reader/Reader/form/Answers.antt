use Rattle.std.proofs.Common.{◌∙◌, get_or, ap}
use Rattle.query_report.specs.Form.{form_at}
use Rattle.query_report.proofs.Front.{stands}
use Rattle.query_report.proofs.reader.Reader.form.Goals as goal

pub returns-in-len2-up : goal.returns-in-len2-up
returns-in-len2-up c = λ first second rest e.
    let is = stands c.self.inside.rest.now _ c.self.inside.is_fine (c.self.view_is ∙ e) in
    c.form_at.ensures ∙ ap (λ bytes. form_at (get_or bytes 0 0) (get_or bytes 1 0)) is
