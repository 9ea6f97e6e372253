use Rattle.std.proofs.Common.{◌≡◌, ◌*◌, ℕ, List}
use Rattle.octets.specs.declared.Order.TheVariants.{LowestFirst}
use Rattle.blocks.specs.Blocks.{rounds, words}
use Rattle.md4.specs.Md4.{operation}
use Rattle.md4.proofs.round.Given as goal

abbrev pub invariant-loop-i : goal.invariant-loop-i
invariant-loop-i l = (block : List ℕ) → l.x ≡ words LowestFirst block 16 → l.r ≡ rounds (operation block) (16 * l.q) l.i l.initial.r
