use Rattle.std.proofs.Common.{◌≡◌, ◌<◌, ◌^◌}
use Rattle.des.specs.Tables.{choice1_c, choice1_d}
use Rattle.des.specs.Des.{half, iterated}
use Rattle.des.proofs.iterate.Given as goal

abbrev pub invariant-loop-shift : goal.invariant-loop-shift
invariant-loop-shift l =
    (l.c < 2 ^ 28) × (l.d < 2 ^ 28) × (l.c ≡ half choice1_c l.key l.shift-index) × (l.d ≡ half choice1_d l.key l.shift-index)
    × (l.h ≡ iterated l.key l.x l.shift-index)
