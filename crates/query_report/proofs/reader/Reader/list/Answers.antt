use Rattle.std.proofs.Common.{◌≡◌, ◌∙◌, ◌+◌, ◌++◌, length, drop, ap, arith, sym, rules}
use Rattle.std.proofs.lemmas.List.{length_push, length-drop}
use Rattle.query_report.proofs.Rows.{list-none, list-some, more_ends, push_first, push_behind}
use Rattle.query_report.proofs.Reading.{failed, reads-none, reads-more}
use Rattle.query_report.proofs.reader.Reader.list.Goals as goal

pub returns-then-count-eq0-clause-reads : goal.returns-then-count-eq0-clause-reads
returns-then-count-eq0-clause-reads c = list-none c.if-count-eq0.true c.new-list.ensures c.label.ensures

pub loop-init : goal.loop-init
loop-init c =
    let is = push_first c.new-list.result c.push.new.self c.field.result c.new-list.ensures c.in_ok-push.ensures.ok in
    record {
      first = is ∙ sym (ap (λ list. list ++ drop 1 list) is);
      count = ap length is;
      reads = reads-none (ap (drop 1) is);
    }

pub loop-preserved : goal.loop-preserved
loop-preserved c =
    let list = c.loop.list in
    let pushed = c.push-in-loop.new.self in
    let is = push_behind c.push.new.self list pushed c.field-in-loop.result c.loop.invariant.first (omega arith)
    c.in_ok-push-2.ensures.ok in
    let len : length list ≡ length (drop 1 list) + 1 = omega (arith, length-drop 1 list) in
    record {
      first = is.1;
      count = omega (arith, ap length c.in_ok-push-2.ensures.ok, length_push list c.field-in-loop.result);
      reads = reads-more {n = c.loop.counter} c.loop.invariant.reads c.field-in-loop.ensures (omega arith) is.0
          (λ row left rest whole ends. more_ends _ left rest ends) (λ rest whole ends e. omega arith);
    }

pub returns-then-has_failed-clause-reads : goal.returns-then-has_failed-clause-reads
returns-then-has_failed-clause-reads c =
    let first = push_first c.new-list.result c.push.new.self c.field.result c.new-list.ensures c.in_ok-push.ensures.ok in
    list-some (omega arith) (c.loop.invariant.first ∙ ap (λ list. list ++ drop 1 c.loop.list) first)
    c.field.ensures c.loop.invariant.reads
    (λ rest e. absurd (failed (c.has_failed.ensures.0 (let yes = c.if-has_failed.true in search rules)) e))

pub returns-clause-reads : goal.returns-clause-reads
returns-clause-reads c =
    let first = push_first c.new-list.result c.push.new.self c.field.result c.new-list.ensures c.in_ok-push.ensures.ok in
    list-some (omega arith) (c.loop.invariant.first ∙ ap (λ list. list ++ drop 1 c.loop.list) first)
    c.field.ensures c.loop.invariant.reads (λ rest e. omega arith)
