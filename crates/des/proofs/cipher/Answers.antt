use Rattle.std.proofs.Common.{◌+◌, ◌<◌, ◌^◌, ap, ◌∙◌, arith}
use Rattle.des.proofs.Groups.{box_more, box_lt}
use Rattle.des.specs.Inner.{ring}
use Rattle.des.proofs.cipher.Goals as goal

pub overflow_add-y : goal.overflow_add-y
overflow_add-y c =
    let room : c.loop-i.y + c.permute_part-y.result < 2 ^ 32 =
    box_lt _ _
    (box_more _ _ _ c.loop-i.i _ _ _ _ c.ranges.r.fits (omega arith) (c.ring_of-ring.ensures ∙ ap ring c.from.ensures) c.six.ensures.0 c.substitute.ensures.0 c.substitute.ensures.1 c.permute_part-y.ensures c.loop-i.invariant) in
    omega arith
