-- The key schedule, a round at a time.
use mathlib.Core.Path.{◌≡◌, refl, sym, ap, ◌∙◌}
use mathlib.Core.List.{List, [], ◌∷◌, ◌++◌}
use Prim.Native.Nat.{ℕ, zero, suc, ◌+◌, ◌*◌, ◌%◌, ◌<◌, ◌≤◌}
use native.Mathlib.Nat.{mod-add-mod, zero-mod}
use native.Mathlib.Numerals.{add-one}
use native.Mathlib.Omega.{arith}
use lib.ListN.{length, get_or}
use Rattle.rc4.specs.Cipher.{below, swap, round_j, round, rounds}
use Rattle.rc4.specs.Inner.{OctetCells}
use Rattle.rc4.proofs.Permutation.{below_length}
use Rattle.rc4.proofs.Boxes.{swap_octets}

-- an octet behind octets
snoc_octets : (l : List ℕ) (v : ℕ) → v < 256 → ((k : ℕ) → get_or l k 0 < 256) → (k : ℕ) → get_or (l ++ (v ∷ [])) k 0 < 256
snoc_octets [] v fits e zero = fits
snoc_octets [] v fits e (suc k) = omega arith
snoc_octets (x ∷ xs) v fits e zero = e 0
snoc_octets (x ∷ xs) v fits e (suc k) = snoc_octets xs v fits (λ m. e (suc m)) k

-- the numbers below n are octets
below_octets : (n : ℕ) → n ≤ 256 → (k : ℕ) → get_or (below n) k 0 < 256
unfolding below
below_octets zero h k = omega arith
below_octets (suc n) h k = snoc_octets (below n) n h (below_octets n (omega arith)) k

below_cells : {cells : List ℕ} → cells ≡ below 256 → OctetCells cells
below_cells e = rw e (record { long = below_length 256; octets = below_octets 256 (omega arith) })

-- the box, j and the place in the key after the first i rounds, j not wrapped mod 256
pub record Mixed (key cells : List ℕ) (place j i : ℕ) : Type 0 where
  pub inside : place < length key
  pub place_is : place ≡ i % length key
  pub near : j ≤ 510 * i
  pub whole : OctetCells cells
  pub cells_are : cells ≡ (rounds key i).cells
  pub j_is : j % 256 ≡ (rounds key i).j

-- before the first round
pub mixed_none : (key : List ℕ) {cells : List ℕ} → cells ≡ below 256 → 1 ≤ length key → Mixed key cells 0 0 0
unfolding rounds
mixed_none key {cells} e h = record {
  inside = h;
  place_is = sym (zero-mod _);
  near = omega arith;
  whole = below_cells e;
  cells_are = e;
  j_is = refl;
}

-- one round more
pub mixed_more : {key cells cells' : List ℕ} {place j i place' j' : ℕ} → Mixed key cells place j i → j' ≡ j + get_or cells i 0 + get_or key place 0 → j' ≤ j + 510
    → cells' ≡ swap cells i (j' % 256) → place' ≡ (place + 1) % length key → place' < length key → Mixed key cells' place' j' (i + 1)
unfolding rounds round round_j
mixed_more {key} {cells} {cells'} {place} {j} {i} {place'} {j'} m sum near swapped next inside =
    let read : get_or key place 0 ≡ get_or key (i % length key) 0 = ap (λ k. get_or key k 0) m.place_is in
    let j_is : j' % 256 ≡ (rounds key (i + 1)).j = rw (add-one, ← m.j_is, ← m.cells_are, ← read, sum) (omega arith) in
    record {
      inside = inside;
      place_is = next ∙ rw m.place_is (mod-add-mod i (length key) 1);
      near = omega (arith, m.near);
      whole = rw swapped (swap_octets cells i (j' % 256) m.whole);
      cells_are = rw add-one (rw (j_is, add-one, m.cells_are) at swapped);
      j_is = j_is;
    }
