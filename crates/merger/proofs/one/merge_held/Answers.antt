use Rattle.merger.proofs.one.merge_held.Goals as goal

pub returns-clause-digests : goal.returns-clause-digests
returns-clause-digests g c =
    let handle = g.S.Log.CommitLog.handle in
    c.later_digests.ensures (handle c.carried-carried.new.log).seen (handle c.put.new.log).seen
    c.carried-carried.new.self c.put.ensures.more.begins c.carried-carried.ensures.digests
