use Rattle.std.proofs.Common.{◌-◌, ◌∙◌, sym, arith}
use Rattle.std.proofs.lemmas.List.{get_or-map, length-map}
use Rattle.unit_version.specs.declared.keys.entry.Entry.{Entry}
use Rattle.unit_version.specs.Entry.{codes}
use Rattle.unit_version.proofs.Rising.{absent-near}
use Rattle.unit_version.proofs.keys.search.place_of.Goals as goal

pub returns-then-behind-eq0 : goal.returns-then-behind-eq0
returns-then-behind-eq0 c =
    absent-near (codes c.args.entries.now) c.args.code c.near_entries-behind.result c.requires.rising
    c.near_entries-behind.ensures (λ some. absurd (omega arith))

pub returns-else-entries-place : goal.returns-else-entries-place
returns-else-entries-place c =
    let entries = c.args.entries.now in
    let place = c.near_entries-behind.result - 1 in
    let e = c.index-entries-place.result in
    let code = λ (e : Entry). e.code in
    let inside = c.near_entries-behind.ensures.within in
    absent-near (codes entries) c.args.code c.near_entries-behind.result c.requires.rising c.near_entries-behind.ensures
    (λ some is. c.if-entries-place.false
    (sym (get_or-map code entries place e 0 (omega (arith, inside, length-map entries code))) ∙ is))
