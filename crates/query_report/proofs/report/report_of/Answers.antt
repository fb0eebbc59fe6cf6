use Rattle.std.proofs.Common.{◌≡◌, ◌∙◌, ℕ, List, [], Some, true≢false, sym, ap, rules}
use Rattle.std.proofs.lemmas.List.{append-nil}
use Rattle.query_report.specs.Report.{report_bytes}
use Rattle.query_report.proofs.Workers.{report-reads}
use Rattle.query_report.proofs.report.report_of.Goals as goal

same : (a b : List ℕ) → Some a ≡ Some b → a ≡ b
same a b e = cc

pub returns-then-is_done-clause-some : goal.returns-then-is_done-clause-some
returns-then-is_done-clause-some c =
    let reads = report-reads c.in_ok-replies.ensures c.in_ok-journal.ensures in
    let done = c.is_done.ensures.0 (let yes = c.if-is_done.true in search rules) in
    let text = report_bytes c.in_ok-replies.replies c.in_ok-journal.journal in
    same c.args.bytes.now text (sym c.new-reader.ensures ∙ reads.sound [] done ∙ ap Some (append-nil text))

pub returns-then-is_done-clause-one : goal.returns-then-is_done-clause-one
returns-then-is_done-clause-one c = λ replies journal is e.
    let reads = report-reads c.in_ok-replies.ensures c.in_ok-journal.ensures in
    let text = report_bytes replies journal in
    let found = (reads.finds (replies, journal) [] is tt
    (c.new-reader.ensures ∙ ap Some (e ∙ sym (append-nil text)))).0 in
    (ap (λ p. p.0) found, ap (λ p. p.1) found)

pub returns-clause-none : goal.returns-clause-none
returns-clause-none c = λ replies journal is e.
    let reads = report-reads c.in_ok-replies.ensures c.in_ok-journal.ensures in
    let text = report_bytes replies journal in
    let done = (reads.finds (replies, journal) [] is tt
    (c.new-reader.ensures ∙ ap Some (e ∙ sym (append-nil text)))).1 in
    true≢false (sym (let yes = c.is_done.ensures.1 done in search rules) ∙ c.if-is_done.false)
