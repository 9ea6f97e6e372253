-- The next place is one more, or the first after the last: both are one more, mod the key's length.
use mathlib.Core.Path.{sym}
use Prim.Native.Nat.{◌+◌, ◌<◌}
use native.Mathlib.Nat.{mod_self, mod-eq_of_lt}
use native.Mathlib.Omega.{arith}
use Rattle.rc4.proofs.next_place.Goals as goal

pub returns-then-k-n : goal.returns-then-k-n
returns-then-k-n c = (rw (c.if-k-n.true, mod_self), omega arith)

pub returns-else-k-n : goal.returns-else-k-n
returns-else-k-n c = let h : c.args.k + 1 < c.args.n = omega (arith, c.if-k-n.false) in (sym (mod-eq_of_lt h), h)
