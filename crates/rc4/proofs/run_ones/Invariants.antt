-- n octets of the text are done in each turn of `run_ones`.
use Prim.Native.Nat.{◌+◌, ◌*◌, ◌≤◌}
use Rattle.rc4.specs.Inner.{wrapped}
use Rattle.rc4.proofs.Runs.{Running}
use Rattle.rc4.proofs.run_ones.Given as goal

abbrev pub invariant-loop-n : goal.invariant-loop-n
invariant-loop-n l = Running (wrapped l.initial.cells l.i l.j) (wrapped l.cells (l.i + l.n) l.next) l.text l.initial.out l.out l.n × (l.next ≤ l.j + 255 * l.n)
