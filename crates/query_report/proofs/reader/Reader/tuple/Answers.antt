use Rattle.std.proofs.Common.{◌≡◌, ℕ, ◌++◌, ◌∷◌, [], List, refl, ap, append_assoc}
use Rattle.cubit_base.specs.declared.tuple.Flag.{Flag}
use Rattle.cubit_base.specs.declared.tuple.LineStatus.{LineStatus}
use Rattle.cubit_base.specs.Tuple.{TupleValue}
use Rattle.query_report.specs.Date.{date_text}
use Rattle.query_report.specs.Field.{field, flag_letter, status_letter}
use Rattle.query_report.specs.TupleText.{hundredths_text, letters_text, amounts_text, tuple_text}
use Rattle.query_report.proofs.Reading.{reads-and, passes-then, reads-as}
use Rattle.query_report.proofs.reader.Reader.tuple.Goals as goal

abbrev Parts : Type 0
Parts = ℕ × (ℕ × (ℕ × (ℕ × (Flag × (LineStatus × ℕ)))))

-- the values in the order of the text
parts : TupleValue → Parts
parts t = (t.qty, (t.price, (t.disc, (t.tax, (t.flag, (t.status, t.day))))))

made : Parts → TupleValue
made p = record {
  price = p.1.0;
  day = p.1.1.1.1.1.1;
  qty = p.0;
  disc = p.1.1.0;
  tax = p.1.1.1.0;
  flag = p.1.1.1.1.0;
  status = p.1.1.1.1.1.0;
}

text_of : Parts → List ℕ
text_of p =
    field [] p.0 ++ (hundredths_text p.1.0 ++ (hundredths_text p.1.1.0 ++ (hundredths_text p.1.1.1.0
    ++ (124 ∷ (flag_letter p.1.1.1.1.0 ∷ (124 ∷ (status_letter p.1.1.1.1.1.0 ∷ (124 ∷ date_text p.1.1.1.1.1.1))))))))

text_is : (t : TupleValue) → tuple_text t ≡ text_of (parts t)
unfolding parts text_of field tuple_text amounts_text letters_text
text_is t = simp append_assoc

pub returns : goal.returns
unfolding parts text_of made
returns c =
    let flag = passes-then c.label.ensures (reads-and c.flag-flag.ensures (passes-then c.label-2.ensures
    (reads-and c.status-status.ensures (passes-then c.label-3.ensures c.day-day.ensures.reads (λ x rest fit ends. tt))
    (λ x rest fit ends. tt)) (λ x rest fit ends. tt)) (λ x rest fit ends. tt)) (λ x rest fit ends. tt) in
    let raw = reads-and c.field_within-qty.ensures.reads (reads-and c.hundredths-price.ensures.reads
    (reads-and c.hundredths-disc.ensures.reads (reads-and c.hundredths-tax.ensures.reads flag (λ x rest fit ends. tt))
    (λ x rest fit ends. tt)) (λ x rest fit ends. tt)) (λ x rest fit ends. refl) in
    reads-as _ _ _ parts raw (λ rest e. text_is _)
    (λ t fits. ((fits.qty_low, fits.qty_high), (fits.price, (fits.disc, (fits.tax, (tt, (tt, fits.day)))))))
    (λ t fits. text_is t) (λ t fits e. ap made e)
