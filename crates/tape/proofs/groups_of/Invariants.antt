use Prim.Native.Nat.{◌-◌}
use Rattle.tape.specs.Tape.{most_groups}
use Rattle.tape.proofs.InnerLaws.{Left}
use Rattle.tape.proofs.groups_of.Given as goal

abbrev pub invariant-loop-i : goal.invariant-loop-i
invariant-loop-i l = Left most_groups l.n (l.i - 1) l.left
