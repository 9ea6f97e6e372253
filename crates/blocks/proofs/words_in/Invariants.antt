use Rattle.std.proofs.Common.{◌≡◌, length, take}
use Rattle.blocks.specs.Blocks.{words}
use Rattle.blocks.proofs.words_in.Given as goal

abbrev pub invariant-loop-i : goal.invariant-loop-i
invariant-loop-i l = (length l.w ≡ 16) × (take l.i l.w ≡ words l.order l.block l.i)
