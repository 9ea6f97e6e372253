use Rattle.std.proofs.Common.{◌≡◌, ◌/◌, length, arith}
use Rattle.blocks.specs.Laws.{after_none, after_chunk}
use Rattle.blocks.proofs.absorbed.Goals as goal

pub loop-block-init : goal.loop-block-init
loop-block-init g c = after_none _ _ _

pub loop-block-preserved : goal.loop-block-preserved
loop-block-preserved g c =
    let l = c.loop-block in
    let whole = c.as_chunks.ensures in
    after_chunk _ _ _ _ l.block-index whole.front c.loop-block-test.true whole.front_len l.invariant c.compress-h.ensures

pub returns : goal.returns
returns g c =
    let l = c.loop-block in
    let all : l.block-index ≡ length c.args.m.now / 64 = omega (arith, c.as_chunks.ensures.front_len) in
    rw all at l.invariant
