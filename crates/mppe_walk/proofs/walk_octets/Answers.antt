use native.Mathlib.Omega.{arith}
use Rattle.mppe_walk.proofs.Laws.{walk_laid}
use Rattle.mppe_walk.proofs.walk_octets.Goals as goal

pub returns : goal.returns
returns c = walk_laid _ c.record_octets-front.ensures (omega arith) c.copy.ensures c.put_rest.ensures
