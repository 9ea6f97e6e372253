-- The laws of the sixteen iterations.
use mathlib.Core.Path.{◌≡◌, ◌∙◌}
use mathlib.Core.List.{List, map, ◌++◌}
use Prim.Native.Nat.{ℕ, ◌+◌, ◌*◌, ◌/◌, ◌%◌, ◌^◌}
use native.Mathlib.Nat.{mod-eq_of_lt}
use native.Mathlib.Numerals.{add-one}
use lib.ListN.{get_or}
use Rattle.des.specs.declared.Halves.{Halves}
use Rattle.des.specs.Tables.{choice1_c, choice1_d, choice2, shifts}
use Rattle.des.specs.Des.{selected, place, left_shift, half, subkey, iteration, iterated}
use Rattle.des.proofs.Selection.{selected_lt, left, right}

-- C0 and D0
pub start_c : (key cd : ℕ) → cd ≡ selected 56 (map place choice1_c ++ map place choice1_d) key → cd / 2 ^ 28 % 2 ^ 28 ≡ half choice1_c key 0
unfolding half choice1_c choice1_d
start_c key cd e =
    rw (e, left 56 key (map place choice1_c) (map place choice1_d)) (mod-eq_of_lt (selected_lt 56 key (map place choice1_c)))

pub start_d : (key cd : ℕ) → cd ≡ selected 56 (map place choice1_c ++ map place choice1_d) key → cd % 2 ^ 28 ≡ half choice1_d key 0
unfolding half choice1_c choice1_d
start_d key cd e = rw e (right 56 key (map place choice1_c) (map place choice1_d))

-- one more left shift
pub shift_more : (choice1 : List ℕ) (key n c s r : ℕ) → c ≡ half choice1 key n → s ≡ get_or shifts n 0 → r ≡ left_shift s c → r ≡ half choice1 key (n + 1)
unfolding half
shift_more choice1 key n c s r ec es er = rw (add-one n, ← ec, ← es) er

-- one more iteration
pub iterated_more : (key x n c d k : ℕ) (h g : Halves) → c ≡ half choice1_c key (n + 1) → d ≡ half choice1_d key (n + 1)
    → k ≡ selected 56 choice2 (c * 2 ^ 28 + d) → h ≡ iterated key x n → g ≡ iteration h k → g ≡ iterated key x (n + 1)
unfolding iterated subkey
iterated_more key x n c d k h g ec ed ek eh eg = rw (add-one n) (eg ∙ rw (ek, ec, ed, eh, add-one n))
