use mathlib.Core.Path.{◌≡◌}
use Prim.Native.Nat.{◌+◌, ◌≤◌}
use native.Mathlib.Omega.{arith}
use Rattle.rc4.proofs.Draws.{first_same}
use Rattle.rc4.proofs.Runs.{begun, more, onward, from_zero, filled, after_all}
use Rattle.rc4.proofs.draw_eight.Goals as goal

pub loop-k-init : goal.loop-k-init
loop-k-init c = (begun _ _ _ _ _ c.requires.0 (omega arith), omega arith, first_same c.args.cells.now c.args.i _ c.requires.3 (omega arith))

pub loop-k-preserved : goal.loop-k-preserved
loop-k-preserved c =
    let l = c.loop-k in
    let a = c.advance-d.ensures in
    (more l.invariant.0 (onward _ _ _ _ _ a.1) (from_zero l.k 8 (omega arith) a.0) (omega arith), omega arith, first_same c.advance-d.new.cells (c.args.i + l.k + 1) _ a.3 (omega arith))

pub returns : goal.returns
returns c =
    let l = c.loop-k in
    let all : l.k ≡ 8 = omega (arith, l.invariant.0.within) in
    let h : 8 ≤ l.k = omega arith in
    (filled l.invariant.0 h (omega arith), rw all at (after_all l.invariant.0 h), l.invariant.0.whole, omega arith, rw all at l.invariant.2)
