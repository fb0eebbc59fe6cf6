use Rattle.std.proofs.Common.{◌∙◌, sym}
use Rattle.std.proofs.lemmas.Bool.{OnTrue_from, eqb-true, false≢true}
use Rattle.tbl_text.specs.Lines.{EndsInBar}
use Rattle.tbl_text.proofs.TakenTail.{tail_ended, tail_open}
use Rattle.tbl_text.proofs.fast.is_five_fields.Goals as goal
use Rattle.tbl_text.proofs.fast.is_five_fields.Goals.{then-ends_in_bar, else-ends_in_bar}

pub returns : goal.returns
returns c =
    let all = c.requires in
    OnTrue_from _ _ (λ same. elim c.if-ends_in_bar.branch [
      | then-ends_in_bar w ↦
          let ended = c.ends_in_bar.ensures.0 w.if-ends_in_bar.true in
          tail_ended _ _ ended all.bars all.text (eqb-true _ _ same ∙ w.result-is)
      | else-ends_in_bar w ↦
          let other : ¬ EndsInBar c.args.tail.now =
          λ bar. false≢true (sym w.if-ends_in_bar.false ∙ c.ends_in_bar.ensures.1 bar) in
          tail_open _ _ other all.bars all.text (eqb-true _ _ same ∙ w.result-is)
    ])
