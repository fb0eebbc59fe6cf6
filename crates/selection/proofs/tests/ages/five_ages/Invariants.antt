use Rattle.std.proofs.Common.{◌≡◌}
use Rattle.cubit_base.specs.History.{after}
use Rattle.commit_log.specs.Log.{IsWhole}
use Rattle.version_store.specs.Store.{IsStanding}
use Rattle.selection.proofs.tests.ages.five_ages.Given as goal

abbrev pub invariant-loop-k : goal.invariant-loop-k
invariant-loop-k g l =
    let terms = g.S.Log.CommitLog.terms in
    let seen = (g.S.Log.CommitLog.handle l.log).seen in
    IsWhole terms seen l.at × (l.now ≡ after terms.base seen)
    × IsStanding terms (g.S.VersionStore.store l.store) l.base (g.S.VersionStore.over l.store l.log)
