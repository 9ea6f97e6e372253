use Prim.Native.Nat.{suc, ◌-◌}
use lib.ListN.{length}
use Rattle.marks.proofs.InnerLaws.{Compares}
use Rattle.marks.proofs.compared.Given as goal

abbrev pub invariant-loop-next : goal.invariant-loop-next
invariant-loop-next l = Compares l.initial.at.link l.tape l.marks l.at l.agreeing

abbrev pub decreases-loop-next : goal.decreases-loop-next
decreases-loop-next l = suc (length l.tape) - l.at.offset
