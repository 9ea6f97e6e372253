use Rattle.std.proofs.Common.{◌≡◌, ℕ, ◌+◌, ◌-◌, ◌*◌, ◌/◌, ◌^◌, ◌≤◌}
use Rattle.des.specs.Des.{selected}
use Rattle.des.specs.Tables.{choice2}
use Rattle.des.specs.Inner.{Parts}
use Rattle.des.proofs.choose_half.Given as goal

abbrev pub invariant-loop-i : goal.invariant-loop-i
invariant-loop-i l =
    (l.r ≤ 4294967295 * l.i)
    × ((p q : ℕ) → Parts 56 choice2 7 p q l.parts → l.r * 2 ^ q ≡ selected 56 choice2 (l.x / 2 ^ (4 * (7 - l.i)) * 2 ^ (p + 4 * (7 - l.i))))
