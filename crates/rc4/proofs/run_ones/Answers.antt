use mathlib.Core.Path.{ap}
use Prim.Native.Nat.{◌<◌}
use native.Mathlib.Omega.{arith}
use lib.Bits.{bit_xor}
use lib.ListN.{length, get_or}
use Rattle.rc4.proofs.Runs.{begun, more, onward, finished}
use Rattle.rc4.proofs.run_ones.Goals as goal

pub loop-n-init : goal.loop-n-init
loop-n-init c =
    let p = c.requires in
    (begun _ _ _ _ _ p.whole p.room, omega arith)

pub loop-n-preserved : goal.loop-n-preserved
loop-n-preserved c =
    let l = c.loop-n in
    let a = c.advance-d.ensures in
    let text = c.args.text.now in
    let h : l.n < length text = omega arith in
    (more l.invariant.0 (onward _ _ _ _ _ a.1) (ap (bit_xor (get_or text l.n 0)) a.0) h, omega arith)

pub returns : goal.returns
returns c =
    let l = c.loop-n in
    finished l.invariant.0 (omega arith) l.invariant.1
