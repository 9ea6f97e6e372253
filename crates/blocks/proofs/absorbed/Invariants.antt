use Rattle.std.proofs.Common.{◌≡◌}
use Rattle.blocks.specs.Blocks.{after}
use Rattle.blocks.proofs.absorbed.Given as goal

abbrev pub invariant-loop-block : goal.invariant-loop-block
invariant-loop-block g l = l.h ≡ after g.S.BlockState.compressed l.initial.h l.m l.block-index
