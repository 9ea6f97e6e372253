use Rattle.std.proofs.Common.{◌≡◌, arith}
use Rattle.blocks.specs.Laws.{round_none, round_more}
use Rattle.sha256.proofs.sixteen.Goals as goal

pub loop-i-init : goal.loop-i-init
loop-i-init c = round_none _ _ _

pub loop-i-preserved : goal.loop-i-preserved
loop-i-preserved c = round_more _ _ _ _ c.loop-i.invariant c.round-x.ensures

pub returns : goal.returns
returns c =
    let done : c.loop-i.i ≡ 16 = omega arith in
    rw done at c.loop-i.invariant
