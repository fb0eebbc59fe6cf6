use Rattle.std.proofs.Common.{List, rules, sym, subst, arith}
use Rattle.std.proofs.lemmas.List.{take_all}
use Rattle.cubit_base.specs.Delta.{IsLawful}
use Rattle.cubit_base.specs.History.{after}
use Rattle.cubit_base.specs.declared.delta.Delta.{Delta}
use Rattle.log_core.proofs.machine.Core.may_append.Goals as goal

pub returns : goal.returns
returns c =
    let core = c.args.self.now in
    let len = c.len-2.ensures in
    let whole = take_all c.len-2.result core.chain.history (omega arith) in (
      λ yes. record {
        party = search rules;
        node = search rules;
        room = search rules;
        author = search rules;
        lawful = subst
            (λ (x : List Delta). IsLawful core.terms.limits.row_limit (after core.terms.base x) c.args.delta.now)
            whole (c.is_lawful_behind.ensures.0 yes);
      },
      λ may. c.is_lawful_behind.ensures.1
          (subst (λ (x : List Delta). IsLawful core.terms.limits.row_limit (after core.terms.base x) c.args.delta.now)
          (sym whole) may.lawful),
    )
