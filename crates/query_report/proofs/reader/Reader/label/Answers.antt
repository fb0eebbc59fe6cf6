use Rattle.std.proofs.Common.{Some, None, subst}
use Rattle.std.proofs.lemmas.Bool.Decides.{Decides-eqb}
use Rattle.std.proofs.lemmas.Slice.Eq.{strip_prefix_is}
use Rattle.query_report.specs.Reading.{Left, Passes, Anything}
use Rattle.query_report.proofs.Front.{left_of, passes-some, passes-none}
use Rattle.query_report.proofs.reader.Reader.label.Goals as goal

pub returns-in-Some : goal.returns-in-Some
returns-in-Some c =
    let bytes = c.self.inside.rest.now in
    let label = c.args.label.now in
    let fine = c.self.inside.is_fine in
    let rest = c.in-Some.rest in
    let is = strip_prefix_is Decides-eqb bytes label (Some rest) c.in-Some.ensures.cases in
    subst (λ (old : Left). Passes label Anything old (left_of fine rest.now)) c.self.view_is
    (passes-some label bytes rest.now fine is)

pub returns-in-None : goal.returns-in-None
returns-in-None c =
    let bytes = c.self.inside.rest.now in
    let label = c.args.label.now in
    let other = strip_prefix_is Decides-eqb bytes label None c.in-None.ensures.cases in
    subst (λ (old : Left). Passes label Anything old None) c.self.view_is
    (passes-none label bytes c.self.inside.is_fine other)
