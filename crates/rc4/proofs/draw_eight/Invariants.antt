-- `draw_eight` is a run over eight zeros, k of them done in each turn.
use mathlib.Core.Path.{◌≡◌}
use Prim.Native.Nat.{◌+◌, ◌*◌, ◌≤◌}
use lib.ListN.{replicate}
use Rattle.rc4.specs.Inner.{wrapped, first_cell}
use Rattle.rc4.proofs.Runs.{Running}
use Rattle.rc4.proofs.draw_eight.Given as goal

abbrev pub invariant-loop-k : goal.invariant-loop-k
invariant-loop-k l =
    Running (wrapped l.initial.cells l.i l.j) (wrapped l.cells (l.i + l.k) l.next) (replicate 8 0) l.initial.octets l.octets l.k × (l.next ≤ l.j + 255 * l.k)
    × (l.first ≡ first_cell l.cells (l.i + l.k))
