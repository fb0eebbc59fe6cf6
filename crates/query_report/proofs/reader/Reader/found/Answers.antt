use Rattle.std.proofs.Common.{ℕ, refl, ap}
use Rattle.cubit_base.specs.Tuple.{TupleValue}
use Rattle.query_report.specs.declared.reader.reply.Form.TheVariants as form
use Rattle.query_report.specs.Reading.{EndsNumber}
use Rattle.query_report.specs.Reply.{reply_bytes}
use Rattle.query_report.proofs.Forms.{form-reads}
use Rattle.query_report.proofs.Reading.{reads-and, passes-then, reads-as, reads-before}
use Rattle.query_report.proofs.reader.Reader.found.Goals as goal

flat : (ℕ × ℕ) × TupleValue → ℕ × ℕ × TupleValue
flat f = (f.0.0, f.0.1, f.1)

pub returns : goal.returns
unfolding flat reply_bytes
returns c =
    let raw = reads-and c.two-front.ensures (passes-then c.label.ensures c.tuple-tuple.ensures (λ n rest fit ends. tt))
    (λ n rest fit ends. refl) in
    form-reads form.Found (reads-as _ _ _ (λ (f : ℕ × ℕ × TupleValue). ((f.0, f.1), f.2))
    (reads-before EndsNumber raw (λ rest ends. tt)) (λ rest e. refl) (λ f fits. ((fits.0, fits.1), fits.2))
    (λ f fits. refl) (λ f fits e. ap flat e))
