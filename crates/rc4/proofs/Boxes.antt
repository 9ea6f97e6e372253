-- A box of octets as one of words: cell by cell, each cell an octet.
use mathlib.Core.Path.{◌≡◌, refl, sym, ◌∙◌}
use mathlib.Core.List.{List, [], ◌∷◌}
use Prim.Native.Nat.{ℕ, zero, suc, ◌+◌, ◌<◌, ◌≤◌}
use native.Mathlib.Numerals.{add-one}
use native.Mathlib.Omega.{arith}
use lib.ListN.{length, get_or, set, take, replicate, length-set}
use lib.Seq.{take-suc, take-suc-set, take_all}
use Rattle.rc4.specs.Cipher.{swap}
use Rattle.rc4.specs.Inner.{OctetCells}

-- an octet stored leaves every cell an octet ..
set_octets : (c : List ℕ) (a v : ℕ) → v < 256 → ((k : ℕ) → get_or c k 0 < 256) → (k : ℕ) → get_or (set c a v) k 0 < 256
set_octets [] a v fits h k = h k
set_octets (x ∷ xs) zero v fits h zero = fits
set_octets (x ∷ xs) zero v fits h (suc k) = h (suc k)
set_octets (x ∷ xs) (suc a) v fits h zero = h 0
set_octets (x ∷ xs) (suc a) v fits h (suc k) = set_octets xs a v fits (λ n. h (suc n)) k

-- .. and so does a swap
pub swap_octets : (c : List ℕ) (a b : ℕ) → OctetCells c → OctetCells (swap c a b)
swap_octets c a b w = record {
  long = simp length-set w.long;
  octets = set_octets (set c a (get_or c b 0)) b (get_or c a 0) (w.octets a) (set_octets c a (get_or c b 0) (w.octets b) w.octets);
}

-- two cells change places where what is stored at b is the cell at a
pub exchanged : (c : List ℕ) (a b : ℕ) {x : ℕ} → x ≡ get_or c a 0 → set (set c a (get_or c b 0)) b x ≡ swap c a b
exchanged c a b e = rw e

-- the first n of a list are those of another: one more, and all
pub front_more : (from to : List ℕ) (n v : ℕ) → take n to ≡ take n from → v ≡ get_or from n 0 → n < length from → n < length to
    → take (n + 1) (set to n v) ≡ take (n + 1) from
front_more from to n v same read there here = rw (add-one, take-suc-set to n v here, take-suc from n 0 there, same, read)

pub front_all : (from to : List ℕ) (n : ℕ) → take n to ≡ take n from → length from ≤ n → length to ≤ n → to ≡ from
front_all from to n same there here = sym (take_all n to here) ∙ same ∙ take_all n from there

-- zeros are octets
zeros_octets : (m k : ℕ) → get_or (replicate m 0) k 0 < 256
zeros_octets zero k = omega arith
zeros_octets (suc m) zero = omega arith
zeros_octets (suc m) (suc k) = zeros_octets m k

pub zero_cells : OctetCells (replicate 256 0)
zero_cells = record { long = refl; octets = zeros_octets 256 }

-- a box of octets whose first n cells are those of another
pub record Copied (from to : List ℕ) (n : ℕ) : Type 0 where
  pub within : n ≤ 256
  pub whole : OctetCells to
  pub same : take n to ≡ take n from

-- none of them
pub copied_none : (from to : List ℕ) → OctetCells to → Copied from to 0
copied_none from to whole = record { within = omega arith; whole = whole; same = refl }

-- one more
pub copied_more : (from to : List ℕ) (n m v : ℕ) → Copied from to n → v ≡ get_or from n 0 → v < 256 → length from ≡ 256 → n < 256 → m ≡ n + 1
    → Copied from (set to n v) m
copied_more from to n m v c read fits long h next =
    record {
      within = omega arith;
      whole = record { long = simp length-set c.whole.long; octets = set_octets to n v fits c.whole.octets };
      same = rw next (front_more from to n v c.same read (omega arith) (omega (arith, c.whole.long)));
    }

-- all of them
pub copied_all : (from to : List ℕ) (n : ℕ) → Copied from to n → length from ≡ 256 → 256 ≤ n → to ≡ from
copied_all from to n c long h = front_all from to n c.same (omega arith) (omega (arith, c.whole.long))
