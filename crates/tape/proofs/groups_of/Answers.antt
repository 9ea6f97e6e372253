use mathlib.Core.Path.{◌≡◌}
use Prim.Native.Nat.{◌+◌, ◌-◌, ◌<◌}
use native.Mathlib.Omega.{arith}
use Rattle.tape.specs.Tape.{most_groups}
use Rattle.tape.proofs.InnerLaws.{left_all, next_group, top_group}
use Rattle.tape.proofs.groups_of.Goals as goal

pub loop-i-init : goal.loop-i-init
loop-i-init c = left_all most_groups c.args.n (omega arith) (omega arith)

pub returns-then-left-lt-MORE : goal.returns-then-left-lt-MORE
returns-then-left-lt-MORE c =
    let size = (top_group most_groups c.args.n c.loop-i.invariant c.if-left-lt-MORE.true).0 in
    (omega (arith, size), omega arith)

pub loop-i-preserved : goal.loop-i-preserved
loop-i-preserved c =
    let here : c.loop-i.i + 1 - 1 ≡ c.loop-i.i - 1 + 1 = omega arith in
    rw here (next_group most_groups c.args.n c.loop-i.invariant c.if-left-lt-MORE.false).2

pub returns : goal.returns
returns c =
    let left = c.loop-i.invariant in
    let end : c.loop-i.i ≡ 3 = omega arith in
    let last : c.loop-i.left < 128 = rw end at left.1 in
    let size = (top_group most_groups c.args.n left last).0 in
    (omega (arith, size), omega arith)
