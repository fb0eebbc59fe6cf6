use Rattle.std.proofs.Common.{◌≡◌, IsTrue, sym, ◌∙◌, subst, rules}
use Rattle.cubit_base.specs.declared.entry.Entry.{Entry}
use Rattle.log_core.specs.Steps.{MayComeNext}
use Rattle.log_core.proofs.Entries.{four-words}
use Rattle.log_core.proofs.machine.Core.proposed.Goals as goal

pub returns-in_default-clause-none : goal.returns-in_default-clause-none
returns-in_default-clause-none c e has may =
    c.in_default.ensures.none e has.fits (c.payload.ensures ∙ four-words c.args.self.now.words c.args.node e has)

pub returns-then-not-may_come_next-clause-none : goal.returns-then-not-may_come_next-clause-none
returns-then-not-may_come_next-clause-none c e has may =
    let core = c.args.self.now in
    let same : e ≡ c.in-Some.entry = c.words.ensures.entry e c.in-Some.entry has.fits c.in-Some.ensures.some.0
    (sym (c.payload.ensures ∙ four-words core.words c.args.node e has) ∙ c.in-Some.ensures.some.1) in
    let is : IsTrue c.may_come_next.result = c.may_come_next.ensures.1
    (subst (λ (x : Entry). MayComeNext core c.args.party c.args.place x) same may) in
    search rules
