use Rattle.std.proofs.Common.{◌≤◌, take, sym, subst}
use Rattle.commit_log.proofs.laws.prefixes.Goals as goal

pub returns-clause-rows : goal.returns-clause-rows
returns-clause-rows c = λ terms log front is stands.
    subst (λ n. n ≤ terms.limits.row_limit) (sym stands.rows)
    (c.rows.ensures.within terms.limits.row_limit terms.base (take front.len log)
    (c.histories.ensures.front terms.limits.row_limit terms.base log front.len is.history) is.limits_fit.base_rows)
