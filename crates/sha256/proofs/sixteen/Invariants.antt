use Rattle.std.proofs.Common.{◌≡◌, ◌*◌}
use Rattle.blocks.specs.Blocks.{rounds}
use Rattle.sha256.specs.Sha256.{round}
use Rattle.sha256.proofs.sixteen.Given as goal

abbrev pub invariant-loop-i : goal.invariant-loop-i
invariant-loop-i l = l.x ≡ rounds (round l.w) (16 * l.q) l.i l.initial.x
