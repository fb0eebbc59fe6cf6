use Rattle.std.proofs.Common.{◌≡◌, ℕ, ◌∙◌, ◌++◌, ◌∷◌, [], Some, None, refl, ap}
use Rattle.query_report.specs.declared.reply.DropLine.{DropLine}
use Rattle.query_report.specs.Field.{field}
use Rattle.query_report.specs.Reply.{drop_letter, drop_number, drop_text}
use Rattle.query_report.proofs.Reading.{reads-and, passes-then, reads-as, reads-not}
use Rattle.query_report.proofs.reader.Reader.drop_line.Goals as goal

parts : DropLine → ℕ × ℕ
parts line = (drop_letter line, drop_number line)

pub returns-in-Some : goal.returns-in-Some
unfolding field
returns-in-Some c =
    let raw = passes-then c.label.ensures (reads-and c.byte-letter.ensures c.field-number.ensures
    (λ n rest fit ends. tt))
    (λ n rest fit ends. tt) in
    let line = c.in-Some.line in
    let is = c.in-Some.ensures.some in
    let text : drop_text line ≡ c.byte-letter.result ∷ field [] c.field-number.result =
    ap (λ b. field (b ∷ []) (drop_number line)) is.0 ∙ ap (field (c.byte-letter.result ∷ [])) is.1 in
    reads-as _ _ line (λ (line : DropLine). (drop_letter line, drop_number line)) raw
    (λ rest e. ap (λ bytes. c.args.label.now ++ bytes) text) (λ line fits. (tt, fits)) (λ line fits. refl)
    (λ other fits e. same other line (c.in-Some.ensures.only other (ap (λ p. p.0) e) (ap (λ p. p.1) e)))
  where
    same : (a b : DropLine) → Some b ≡ Some a → a ≡ b
    same a b e = cc

pub returns-in-None : goal.returns-in-None
unfolding field
returns-in-None c =
    let raw = passes-then c.label.ensures (reads-and c.byte-letter.ensures c.field-number.ensures
    (λ n rest fit ends. tt))
    (λ n rest fit ends. tt) in
    reads-not _ _ _ _ (λ (line : DropLine). (drop_letter line, drop_number line)) raw c.expect.ensures
    (λ line fits. (tt, fits)) (λ line fits. refl)
    (λ other fits e. none other (c.in-None.ensures.only other (ap (λ p. p.0) e) (ap (λ p. p.1) e)))
  where
    none : (a : DropLine) → None ≡ Some a → ⊥
    none a e = cc
