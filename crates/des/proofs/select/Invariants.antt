use Rattle.std.proofs.Common.{◌≡◌, ◌<◌, ◌^◌, take}
use Rattle.std.specs.List.{concat}
use Rattle.des.specs.Des.{selected}
use Rattle.des.proofs.select.Given as goal

abbrev pub invariant-loop-row : goal.invariant-loop-row
invariant-loop-row l = (l.r ≡ selected l.w (concat (take l.row-index l.table)) l.x) × (l.r < 256 ^ l.row-index)
