use Rattle.std.proofs.Common.{◌*◌}
use Rattle.sha_1.specs.Inner.{Rounds}
use Rattle.sha_1.proofs.ten.Given as goal

abbrev pub invariant-loop-i : goal.invariant-loop-i
invariant-loop-i l = Rounds (10 * l.q) l.i l.initial.x l.x l.initial.w l.w
