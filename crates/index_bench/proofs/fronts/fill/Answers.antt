use Rattle.index_bench.proofs.fronts.fill.Goals as goal

pub append-requires-clause-lawful : goal.append-requires-clause-lawful
append-requires-clause-lawful g c = c.in-Some.ensures.within g.S.Setup.limits.row_limit
