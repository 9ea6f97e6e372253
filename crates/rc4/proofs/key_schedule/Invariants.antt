-- The box is that after so many rounds in each turn of `key_schedule`, and so is j, mod 256.
use Prim.Native.Nat.{◌+◌, ◌*◌}
use Rattle.rc4.proofs.Keys.{Mixed}
use Rattle.rc4.proofs.key_schedule.Given as goal

abbrev pub invariant-loop-k : goal.invariant-loop-k
invariant-loop-k l = Mixed l.key l.cells l.place l.j (16 * l.turn + l.k)

abbrev pub invariant-loop-turn : goal.invariant-loop-turn
invariant-loop-turn l = Mixed l.key l.cells l.place l.j (16 * l.turn)
