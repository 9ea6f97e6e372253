use mathlib.Core.Path.{◌≡◌}
use Prim.Native.Nat.{◌+◌, ◌*◌}
use native.Mathlib.Nat.{add-zero, add_assoc}
use native.Mathlib.Omega.{arith}
use Rattle.rc4.proofs.Keys.{mixed_none, mixed_more}
use Rattle.rc4.proofs.key_schedule.Goals as goal

pub loop-turn-init : goal.loop-turn-init
loop-turn-init c = mixed_none _ c.requires.1 c.requires.0

pub loop-k-init : goal.loop-k-init
loop-k-init c = rw add-zero c.loop-turn.invariant

pub loop-k-preserved : goal.loop-k-preserved
loop-k-preserved c =
    let l = c.loop-k in
    let m = c.mix-j.ensures in
    let p = c.next_place-place.ensures in
    rw (add_assoc (16 * c.loop-turn.turn) l.k 1) at (mixed_more l.invariant m.0 m.1 m.2 p.0 p.1)

pub loop-turn-preserved : goal.loop-turn-preserved
loop-turn-preserved c =
    let l = c.loop-k in
    let all : 16 * c.loop-turn.turn + l.k ≡ 16 * (c.loop-turn.turn + 1) = omega arith in
    rw all at l.invariant

pub returns : goal.returns
returns c =
    let l = c.loop-turn in
    let all : 16 * l.turn ≡ 256 = omega arith in
    (rw all at l.invariant.cells_are, l.invariant.whole)
