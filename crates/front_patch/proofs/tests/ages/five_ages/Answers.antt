use Rattle.commit_log.specs.Serial.{serial_terms}
use Rattle.front_patch.proofs.Standings.{standing-last}
use Rattle.front_patch.proofs.tests.ages.five_ages.Goals as goal

pub replace_bins-requires-clause-standing : goal.replace_bins-requires-clause-standing
replace_bins-requires-clause-standing g c =
    standing-last (serial_terms g.S.Setup.base g.S.Setup.limits) c.loop-age.store c.args.base.now c.loop-age.log.seen
    c.grow_by.new.log.seen c.loop-age.invariant.2 c.grow_by.ensures.grows.begins

pub returns-in_err-at-2 : goal.returns-in_err-at-2
returns-in_err-at-2 g c = record {
  standing = standing-last (serial_terms g.S.Setup.base g.S.Setup.limits) c.loop-age.store c.args.base.now
      c.loop-age.log.seen c.grow_by-2.new.log.seen c.loop-age.invariant.2 c.grow_by-2.ensures.grows.begins;
}

pub returns : goal.returns
returns g c = record {
  standing = standing-last (serial_terms g.S.Setup.base g.S.Setup.limits) c.loop-age.store c.args.base.now
      c.loop-age.log.seen c.grow_by-2.new.log.seen c.loop-age.invariant.2 c.grow_by-2.ensures.grows.begins;
}
