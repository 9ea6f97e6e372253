-- The first cells are marked in each turn of `marked`.
use lib.ListN.{take}
use Rattle.rc4.specs.Inner.{Marked}
use Rattle.rc4.proofs.marked.Given as goal

abbrev pub invariant-loop-n : goal.invariant-loop-n
invariant-loop-n l = Marked (take l.n l.cells) l.marks
