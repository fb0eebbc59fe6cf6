use Rattle.std.proofs.Common.{arith}
use Rattle.log_core.proofs.Bounds.{place-small}
use Rattle.log_core.proofs.Looks.{keeps-shares}
use Rattle.log_core.proofs.Made.{made-sound}
use Rattle.log_core.proofs.Nodes.{one-place, only-head, empty-last, node-inside, one-owner}
use Rattle.log_core.proofs.laws.nodes.Goals as goal

pub returns : goal.returns
returns c = record {
  place = λ core node j k s a b. one-place core.terms core.words core.chain s.linked s.filled node j k a b;
  inside = λ core node k s at. let small = place-small core s k at.within in let is = at.is in omega arith;
  head = λ core k s at. only-head core.terms core.words core.chain s.linked s.filled k at;
  last = λ core node k s at empty.
      empty-last core.terms core.words core.chain s.linked s.filled node k at empty;
  own = node-inside;
  apart = λ terms p q i j inp inq small small' e. one-owner terms p q i j inp inq small small' e;
  made = made-sound;
}
