use Rattle.std.proofs.Common.{◌≡◌, ◌+◌, ◌++◌, drop, length, codes}
use Rattle.query_report.specs.Field.{field}
use Rattle.query_report.specs.Reading.{EndsNumber, IsNumber}
use Rattle.query_report.proofs.Reading.{ReadsSome}
use Rattle.query_report.proofs.reader.Reader.list.Given as goal

-- the numbers behind the first that come before this place are read
abbrev pub invariant-loop : goal.invariant-loop
invariant-loop l = record {
  first : l.list ≡ l.initial.list ++ drop 1 l.list;
  count : length l.list ≡ l.counter;
  reads : ReadsSome (λ place. field (codes ",")) IsNumber (λ rows. length rows + 1 ≡ l.count) EndsNumber 1
      l.initial.self (drop 1 l.list) l.self;
}
