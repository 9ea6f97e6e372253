-- k eights of the text are done in each turn of `run_eights`, and x is the cell that the next draw reads first.
use mathlib.Core.Path.{◌≡◌}
use Prim.Native.Nat.{◌+◌, ◌*◌, ◌≤◌}
use Rattle.rc4.specs.Inner.{wrapped, first_cell}
use Rattle.rc4.proofs.Runs.{Running}
use Rattle.rc4.proofs.run_eights.Given as goal

abbrev pub invariant-loop-k : goal.invariant-loop-k
invariant-loop-k l =
    Running (wrapped l.initial.cells l.i l.j) (wrapped l.cells (l.i + 8 * l.k) l.next) l.text l.initial.out l.out (8 * l.k)
    × (l.next ≤ l.j + 255 * (8 * l.k)) × (l.x ≡ first_cell l.cells (l.i + 8 * l.k))
