use Rattle.std.proofs.Common.{◌≡◌, length, take}
use Rattle.blocks.specs.Blocks.{schedule, next_word}
use Rattle.sha256.specs.Sha256.{late_word}
use Rattle.sha256.proofs.schedule.Given as goal

abbrev pub invariant-loop-t : goal.invariant-loop-t
invariant-loop-t l = (length l.w ≡ 64) × (take l.t l.w ≡ schedule (next_word late_word l.block) l.t)
