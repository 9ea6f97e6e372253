use Rattle.std.proofs.Common.{◌≡◌, ◌++◌, ◌*◌, ◌-◌, take, replicate}
use Rattle.mschap.specs.Mschap.{encoded as text}
use Rattle.mschap.proofs.encoded.Given as goal

abbrev pub invariant-loop-i : goal.invariant-loop-i
invariant-loop-i l = l.string ≡ text (take l.i l.digest) ++ replicate (40 - 2 * l.i) 0
