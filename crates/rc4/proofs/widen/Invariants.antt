-- The first n words are the first n cells in each turn of `widen`.
use Rattle.rc4.proofs.Boxes.{Copied}
use Rattle.rc4.proofs.widen.Given as goal

abbrev pub invariant-loop-n : goal.invariant-loop-n
invariant-loop-n l = Copied l.cells l.words l.n
