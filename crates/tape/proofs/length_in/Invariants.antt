use Rattle.tape.specs.Tape.{most_groups}
use Rattle.tape.proofs.InnerLaws.{Said}
use Rattle.tape.proofs.length_in.Given as goal

abbrev pub invariant-loop-i : goal.invariant-loop-i
invariant-loop-i l = Said most_groups l.rest l.i l.n
