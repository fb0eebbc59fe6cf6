use Rattle.std.proofs.Common.{take}
use Rattle.unit_version.specs.Span.{AreSpans}
use Rattle.unit_version.proofs.changes.span.spans_of.Given as goal

abbrev pub invariant-loop-tag : goal.invariant-loop-tag
invariant-loop-tag l = AreSpans (take l.tag-index l.tag-items) l.spans.items
