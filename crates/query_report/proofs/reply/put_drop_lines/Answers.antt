use Rattle.std.proofs.Common.{◌≡◌, ◌+◌, ◌++◌, drop, get_or, ap, ◌∙◌, arith}
use Rattle.std.proofs.lemmas.List.{at_drop_more, at_drop_all}
use Rattle.query_report.specs.declared.reply.DropLine.{DropLine}
use Rattle.query_report.specs.Field.{each_text}
use Rattle.query_report.specs.Reply.{numbered_text, drops_text}
use Rattle.query_report.proofs.Writing.{writes_more, writes_all}
use Rattle.query_report.proofs.reply.put_drop_lines.Goals as goal

pub loop-at-preserved : goal.loop-at-preserved
unfolding each_text
loop-at-preserved c =
    let lines = c.args.lines.now in
    let at = c.loop-at.at in
    let digit = 49 + at in
    let rest = drops_text (49 + (at + 1)) (drop (at + 1) lines) in
    let next : digit + 1 ≡ 49 + (at + 1) = omega arith in
    let cut : (d : DropLine) → drops_text digit (drop at lines) ≡ numbered_text digit (get_or lines at d) ++ rest =
    λ d. at_drop_more (drops_text digit) lines at d (omega arith)
    ∙ ap (λ n. numbered_text digit (get_or lines at d) ++ drops_text n (drop (at + 1) lines)) next in
    writes_more c.loop-at.text.items _ _ rest _ _ c.in_ok-put_drop_line.ensures (cut _) c.loop-at.invariant

pub returns : goal.returns
unfolding each_text
returns c =
    let at = c.loop-at.at in
    let done = at_drop_all (drops_text (49 + at)) c.args.lines.now at (omega arith) in
    writes_all c.loop-at.text.items _ _ done c.loop-at.invariant
