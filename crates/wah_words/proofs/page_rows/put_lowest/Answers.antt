use Rattle.std.proofs.Common.{◌≡◌, ◌+◌, ◌≤◌, ◌∙◌, Bool, true, false, not, eqb, ap, arith, inl, inr}
use Rattle.std.proofs.lemmas.Bool.{cases_lt, ne_eqb, eq-eqb}
use Rattle.std.proofs.lemmas.List.{length-set}
use Rattle.std.specs.Int.Count.{count_trailing_zeros}
use mir.Val.{bool_byte}
use Rattle.wah_words.proofs.PageRows.{lowest_written, nothing_written, count_written}
use Rattle.wah_words.proofs.page_rows.put_lowest.Goals as goal

byte_few : (value : Bool) → bool_byte value ≤ 1
byte_few true = omega arith
byte_few false = omega arith

pub returns-clause-places : goal.returns-clause-places
returns-clause-places c =
    let rows = c.args.rows in
    elim (cases_lt 0 rows) [
      | inl some ↦
          let test : eqb rows 0 ≡ false = ne_eqb rows 0 (λ none. omega arith) in
          let one : c.from.result ≡ 1 = c.from.ensures ∙ ap (λ b. bool_byte (not b)) test in
          lowest_written c.args.out.now c.args.len c.args.first rows _ _ some c.requires.rows (omega arith)
          (omega (arith, one)) (omega arith)
      | inr empty ↦
          let none : rows ≡ 0 = omega arith in
          let no_more : c.from.result ≡ 0 = c.from.ensures ∙ ap (λ b. bool_byte (not b)) (eq-eqb rows 0 none) in
          nothing_written c.args.out.now c.args.len c.args.first rows _ _ _ none (omega (arith, no_more))
    ]

pub returns-clause-count : goal.returns-clause-count
returns-clause-count c =
    count_written _ _ _ _ _ _ (returns-clause-places c) (omega (arith, c.told-out))
    (omega (
      arith,
      c.told-out,
      c.from.ensures,
      length-set c.args.out.now c.args.len
          (c.args.first + count_trailing_zeros 64 (c.args.rows + 9223372036854775808)),
      byte_few (not (eqb c.args.rows 0)),
    ))
