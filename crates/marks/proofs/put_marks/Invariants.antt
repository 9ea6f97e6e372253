use Prim.Native.Nat.{suc, ◌-◌}
use lib.ListN.{length}
use Rattle.marks.proofs.InnerLaws.{Puts}
use Rattle.marks.proofs.put_marks.Given as goal

abbrev pub invariant-loop-next : goal.invariant-loop-next
invariant-loop-next l = Puts l.initial.at.link l.tape l.initial.out l.at l.out

abbrev pub decreases-loop-next : goal.decreases-loop-next
decreases-loop-next l = suc (length l.tape) - l.at.offset
