-- The two reads and the swap of `advance` are those of a draw: `stepped` and `drew`.
use mathlib.Core.Path.{◌≡◌, refl}
use Prim.Native.Nat.{◌+◌, ◌%◌}
use native.Mathlib.Omega.{arith}
use Rattle.rc4.proofs.Draws.{stepped, drew, first_octet_lem}
use Rattle.rc4.proofs.advance.Goals as goal

pub overflow_add-sum : goal.overflow_add-sum
overflow_add-sum c = let x = first_octet_lem c.args.i c.requires.0 c.requires.3 in omega arith

pub returns : goal.returns
returns c =
    let p = c.requires in
    let made = c.swap_cells.ensures in
    let x = first_octet_lem c.args.i p.0 p.3 in
    let next : (c.args.i + 2) % 256 ≡ (c.args.i + 1 + 1) % 256 = omega arith in
    (drew _ _ _ _ _ _ refl made p.3 refl refl refl p.0, stepped _ _ _ _ _ _ refl made p.3, omega arith, rw next)
