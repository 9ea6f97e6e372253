-- From the steps of the code to what the calls answer.
use mathlib.Core.Path.{◌≡◌, refl, ◌∙◌}
use mathlib.Core.Bool.{Bool, true, false}
use mathlib.Core.List.{List, ◌++◌, append-nil}
use Prim.Native.Nat.{ℕ, ◌-◌, ◌≤◌}
use native.Mathlib.Omega.{arith}
use lib.Dec.{ltb}
use lib.ListN.{length, take, drop, replicate}
use lib.Seq.{take_all, take_at, drop_at}
use borrow.Author.Tests.{ltb-true, ltb-false}
use borrow.Rule.Slice.PartMut.{put_mid}
use Rattle.std.specs.Prelude.{min}
use Rattle.std.proofs.Math.Nat.{min-eq_left, min-eq_right}
use Rattle.octets.specs.Laws.{drop_zeros}
use Rattle.sstp.specs.Binding.{fitted}

-- the second of two start keys over zeros behind the first
pub pair_laid : (first second : List ℕ) → length first ≡ 16 → length second ≡ 16 → put_mid 16 16 (first ++ replicate 16 0) second ≡ first ++ second
pair_laid first second hf hs = rw (take_at first (replicate 16 0) 16 hf, drop_at first (replicate 16 0) 16 hf, append-nil)

-- key material over zeros
pub material_laid : (n : ℕ) (material : List ℕ) → n ≡ min (length material) 32 → take n material ++ drop n (replicate 32 0) ≡ fitted material
unfolding fitted
material_laid n material e = go (ltb 32 (length material)) refl
  where
    go : (t : Bool) → ltb 32 (length material) ≡ t → take n material ++ drop n (replicate 32 0) ≡ fitted material
    go true h =
        let long : 32 ≤ length material = omega (arith, ltb-true 32 (length material) h) in
        let all : n ≡ 32 = e ∙ min-eq_right long in
        let none : 32 - length material ≡ 0 = omega arith in
        rw (all, none)
    go false h =
        let short : length material ≤ 32 = ltb-false 32 (length material) h in
        let all : n ≡ length material = e ∙ min-eq_left short in
        rw (all, drop_zeros, take_all (length material) material (omega arith), take_all 32 material short)
