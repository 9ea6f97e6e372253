use Rattle.std.proofs.Common.{◌≡◌, arith}
use Rattle.blocks.specs.Laws.{round_none, round_more}
use Rattle.md4.proofs.round.Goals as goal

pub loop-i-init : goal.loop-i-init
loop-i-init c = λ block held. round_none _ _ _

pub loop-i-preserved : goal.loop-i-preserved
loop-i-preserved c = λ block held. round_more _ _ _ _ (c.loop-i.invariant block held) (c.operation-r.ensures block held)

pub returns : goal.returns
returns c = λ block held.
    let done : c.loop-i.i ≡ 16 = omega arith in
    rw done at (c.loop-i.invariant block held)
