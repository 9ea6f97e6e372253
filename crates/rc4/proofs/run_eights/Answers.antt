use mathlib.Core.Path.{◌≡◌, refl}
use Prim.Native.Nat.{◌+◌, ◌*◌, ◌/◌, ◌%◌, ◌-◌, ◌≤◌, ◌<◌}
use native.Mathlib.Omega.{arith}
use lib.ListN.{length}
use Rattle.rc4.proofs.Draws.{first_same}
use Rattle.rc4.proofs.Runs.{begun, eight_place, more_eight, finished}
use Rattle.rc4.proofs.run_eights.Goals as goal

pub loop-k-init : goal.loop-k-init
loop-k-init c =
    let p = c.requires.0 in
    (begun _ _ _ _ _ p.whole p.room, omega arith, first_same c.args.cells.now c.args.i (c.args.i + 8 * 0) refl (omega arith))

pub draw_eight-e-requires : goal.draw_eight-e-requires
draw_eight-e-requires c =
    let l = c.loop-k in
    let i = c.args.i in
    let h : 0 < length c.args.text.now = omega arith in
    let at = eight_place i l.k (c.requires.2 h) in
    (l.invariant.0.whole, omega arith, omega arith, first_same l.cells (i + 8 * l.k) _ l.invariant.2 (omega arith))

pub loop-k-preserved : goal.loop-k-preserved
loop-k-preserved c =
    let l = c.loop-k in
    let a = c.args in
    let e = c.draw_eight-e.ensures in
    let n = 8 * l.k in
    let at = (a.i + n) / 8 % 32 * 8 in
    let h : n + 8 ≤ length a.text.now = omega arith in
    let some : 0 < length a.text.now = omega arith in
    let placed = eight_place a.i l.k (c.requires.2 some) in
    let same : at % 256 ≡ (a.i + n) % 256 = omega arith in
    let on : (at + 8) % 256 ≡ (a.i + 8 * (l.k + 1)) % 256 = omega arith in
    let eight : n + 8 - n ≡ 8 = omega arith in
    let count : 8 * (l.k + 1) ≡ n + 8 = omega arith in (
      more_eight (n + 8 - n) l.invariant.0 (rw same at e.0) (rw (on, same) at e.1) e.2 c.xor_eight.ensures eight count h,
      omega arith,
      first_same c.draw_eight-e.new.cells (at + 8) _ e.4 on,
    )

pub returns : goal.returns
returns c =
    let l = c.loop-k in
    finished l.invariant.0 (omega arith) l.invariant.1
