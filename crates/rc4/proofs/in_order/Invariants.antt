use mathlib.Core.Path.{◌≡◌}
use mathlib.Core.Bool.{◌&&◌}
use lib.ListN.{drop}
use Rattle.rc4.specs.Cipher.{in_order}
use Rattle.rc4.proofs.in_order.Given as goal

abbrev pub invariant-loop-n : goal.invariant-loop-n
invariant-loop-n l = l.same && in_order l.n (drop l.n l.cells) ≡ in_order 0 l.cells
