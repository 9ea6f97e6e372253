use Rattle.std.proofs.Common.{arith}
use Rattle.des.proofs.Groups.{choice_more, choice_none, choice_all}
use Rattle.des.proofs.choose_half.Goals as goal

pub loop-i-init : goal.loop-i-init
loop-i-init c = (omega arith, λ p q held. choice_none _ p q c.requires)

pub loop-i-preserved : goal.loop-i-preserved
loop-i-preserved c = (
  omega arith,
  λ p q held. choice_more _ _ _ c.loop-i.i _ p q held (omega arith) c.from-r.ensures (c.loop-i.invariant.1 p q held),
)

pub returns : goal.returns
returns c = (omega arith, λ p q held. choice_all _ _ c.loop-i.i p q (omega arith) (c.loop-i.invariant.1 p q held))
