use Rattle.shared_log.proofs.laws.core.Goals as goal

pub returns : goal.returns
returns c = record {
  sound = c.steps.ensures.sound;
  grows = c.steps.ensures.grows;
  place = c.nodes.ensures.place;
  inside = c.nodes.ensures.inside;
  head = c.nodes.ensures.head;
  last = c.nodes.ensures.last;
  own = c.nodes.ensures.own;
  apart = c.nodes.ensures.apart;
}
