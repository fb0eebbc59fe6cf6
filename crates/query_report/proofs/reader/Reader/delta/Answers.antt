use Rattle.std.proofs.Common.{ℕ, Option, refl, ap}
use Rattle.cubit_base.specs.declared.delta.Delta.{Delta}
use Rattle.cubit_base.specs.Key.{KeyValue}
use Rattle.cubit_base.specs.Tuple.{TupleValue}
use Rattle.query_report.specs.Journal.{delta_line}
use Rattle.query_report.proofs.Reading.{reads-and, passes-then, then-passes, reads-as}
use Rattle.query_report.proofs.reader.Reader.delta.Goals as goal

abbrev Parts : Type 0
Parts = (ℕ × KeyValue × ℕ) × (Option TupleValue × Option TupleValue)

made : Parts → Delta
made p = record { author = p.0.0; row = p.0.2; key = p.0.1; before = p.1.0; after = p.1.1 }

pub returns : goal.returns
unfolding delta_line made
returns c =
    let tuples = passes-then c.label.ensures (reads-and c.held-before.ensures (passes-then c.label-2.ensures
    (then-passes c.held-after.ensures c.end_line.ensures (λ rest ends. tt)) (λ x rest fit ends. tt))
    (λ x rest fit ends. tt)) (λ x rest fit ends. tt) in
    let raw = reads-and c.place-author.ensures tuples (λ x rest fit ends. refl) in
    reads-as _ _ _ (λ (d : Delta). ((d.author, d.key, d.row), (d.before, d.after))) raw (λ rest e. refl)
    (λ d fits. ((fits.author, (fits.order, fits.key), fits.row), (fits.before, fits.after))) (λ d fits. refl)
    (λ d fits e. ap made e)
