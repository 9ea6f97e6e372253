use Rattle.std.proofs.Common.{◌≡◌, take}
use Rattle.des.specs.Des.{selected}
use Rattle.des.proofs.select_row.Given as goal

abbrev pub invariant-loop-n : goal.invariant-loop-n
invariant-loop-n l = l.r ≡ selected l.w (take l.n-index l.row) l.x
