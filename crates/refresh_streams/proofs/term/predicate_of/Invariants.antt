use Rattle.std.proofs.Common.{◌≡◌, ◌+◌, Some, count_by}
use Rattle.tbl_text.specs.Values.{is_space, words_of}
use Rattle.refresh_streams.specs.Term.{with_terms, predicate_of}
use Rattle.refresh_streams.proofs.term.predicate_of.Given as goal

-- the terms so far are in the predicate
abbrev pub invariant-loop-taken : goal.invariant-loop-taken
invariant-loop-taken l = record {
  value : with_terms (Some l.predicate) (words_of l.rest) ≡ predicate_of (words_of l.terms);
  spaces : count_by is_space l.rest + l.taken ≡ count_by is_space l.terms;
}
