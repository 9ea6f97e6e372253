use Rattle.std.proofs.Common.{◌≡◌, ◌*◌, ◌-◌, ◌^◌}
use Rattle.std.specs.Int.Bits.{bit_xor}
use Rattle.des.specs.Des.{selected, substituted}
use Rattle.des.specs.Tables.{expansion, permutation}
use Rattle.des.proofs.cipher.Given as goal

abbrev pub invariant-loop-i : goal.invariant-loop-i
invariant-loop-i l = l.y ≡ selected 32 permutation (substituted (bit_xor (selected 32 expansion l.r) l.k) l.i * 2 ^ (4 * (8 - l.i)))
