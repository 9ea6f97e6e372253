use native.Mathlib.Omega.{arith}
use Rattle.tape.specs.Tape.{most_groups, groups}
use Rattle.tape.proofs.InnerLaws.{next_group, top_group, place_inside, group_put, top_put}
use Rattle.tape.proofs.put_groups.Goals as goal

pub returns-then-left-lt-MORE : goal.returns-then-left-lt-MORE
returns-then-left-lt-MORE c =
    let (left, fits, put) = c.loop-octet.invariant in
    let (size, group) = top_group most_groups c.args.n left c.if-left-lt-MORE.true in
    top_put (groups most_groups c.args.n) c.args.out.now c.loop-octet.octet-index _ put group size fits

pub loop-octet-preserved : goal.loop-octet-preserved
loop-octet-preserved c =
    let (left, fits, put) = c.loop-octet.invariant in
    let (some, group, next) = next_group most_groups c.args.n left c.if-left-lt-MORE.false in
    (next, fits, group_put (groups most_groups c.args.n) c.args.out.now c.loop-octet.octet-index _ put group some fits)

pub returns : goal.returns
returns c = absurd (omega (arith, place_inside most_groups c.args.n c.loop-octet.invariant.0))
