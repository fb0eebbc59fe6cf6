use Rattle.std.proofs.Common.{◌<◌, ◌∙◌, length, ap, sym, arith}
use Rattle.std.proofs.lemmas.List.{get_or_read, get_or-map, length-map}
use Rattle.unit_version.specs.declared.keys.entry.Entry.{Entry}
use Rattle.unit_version.proofs.Entries.{row_of_key-other_page, row_of_key-absent, row_of_key-at}
use Rattle.unit_version.proofs.keys.Keys.find.Goals as goal

pub returns-then-rest_of-self : goal.returns-then-rest_of-self
returns-then-rest_of-self c =
    rw (← c.self.view_is)
    (sym (row_of_key-other_page c.self.inside.rest c.self.inside.entries.items c.args.key.now c.self.invariant.low
    (λ same. c.if-rest_of-self.true (c.rest_of.ensures ∙ same))))

pub returns-in_err-place : goal.returns-in_err-place
returns-in_err-place c =
    let absent = rw (c.deref.ensures.value, c.code_of.ensures.value) at c.in_err-place.ensures in
    rw (c.from_residual.ensures, ← c.self.view_is)
    (sym (row_of_key-absent c.self.inside.rest c.self.inside.entries.items c.args.key.now c.self.invariant.low absent))

pub returns : goal.returns
returns c =
    let entries = c.self.inside.entries.items in
    let place = c.in_ok-place.place in
    let e = c.index-entry.result.now in
    let code = λ (e : Entry). e.code in
    let there = rw (c.deref.ensures.value, c.code_of.ensures.value) at c.in_ok-place.ensures in
    let within : place < length entries = omega (arith, there.0, length-map entries code) in
    let at = get_or_read entries place e within c.index-entry.ensures in
    let is = ap code (at e) ∙ sym (get_or-map code entries place e 0 within) ∙ there.1 in
    let of_page = sym c.rest_of.ensures ∙ c.if-rest_of-self.false in
    let found = row_of_key-at c.self.inside.rest entries c.args.key.now place e of_page c.code_of.ensures.line
    c.self.invariant.rising within (λ d. sym (at d)) is in
    rw (c.tuple.ensures, ← c.self.view_is) (sym found)
