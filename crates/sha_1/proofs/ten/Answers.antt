use Rattle.std.proofs.Common.{◌≡◌, arith}
use Rattle.sha_1.specs.Ring.{rounds_none, rounds_on}
use Rattle.sha_1.proofs.ten.Goals as goal

pub loop-i-init : goal.loop-i-init
loop-i-init c = rounds_none _ _ _

pub loop-i-preserved : goal.loop-i-preserved
loop-i-preserved c = rounds_on _ _ _ _ _ _ _ _ 1 c.loop-i.invariant c.round-x.ensures

pub returns : goal.returns
returns c =
    let l = c.loop-i in
    let done : l.i ≡ 10 = omega arith in
    rw done at l.invariant
