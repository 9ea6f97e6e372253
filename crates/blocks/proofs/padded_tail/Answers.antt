use mathlib.Core.Path.{refl}
use Prim.Native.Nat.{◌+◌, ◌-◌, ◌%◌}
use native.Mathlib.Omega.{arith}
use lib.ListN.{length}
use Rattle.blocks.specs.Tails.{tail_is}
use Rattle.blocks.proofs.padded_tail.Goals as goal

pub returns : goal.returns
returns c =
    let a = c.args in
    let m = a.m.now in
    let rest = length m % 64 in
    let len = rest + 9 + (119 - rest) % 64 in
    tail_is a.order m a.bits rest (length m - rest) (len - 8) len c.copy.ensures c.long_octets-field.ensures c.copy_at.ensures refl refl (omega arith) (omega arith)
