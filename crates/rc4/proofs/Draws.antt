-- A draw over a box in place, whose indices are not wrapped, is the draw of the definitions.
use mathlib.Core.Path.{◌≡◌, refl}
use mathlib.Core.List.{List, [], ◌∷◌}
use Prim.Native.Nat.{ℕ, zero, suc, ◌+◌, ◌%◌, ◌<◌}
use native.Mathlib.Nat.{mod-eq_of_lt}
use native.Mathlib.Omega.{arith}
use lib.ListN.{length, get_or, set, length-set}
use lib.Seq.{get_or-set_same}
use Rattle.rc4.specs.Cipher.{swap, next_i, next_j, step, drawn}
use Rattle.rc4.specs.declared.Rc4.{Rc4}
use Rattle.rc4.specs.Inner.{wrapped, first_cell, OctetCells}
use Rattle.rc4.proofs.Boxes.{swap_octets}

-- after a swap each of the two cells has what the other had
swap_first : (c : List ℕ) (a b : ℕ) → a < length c → get_or (swap c a b) a 0 ≡ get_or c b 0
swap_first [] a b h = omega arith
swap_first (x ∷ xs) zero zero h = refl
swap_first (x ∷ xs) zero (suc b) h = refl
swap_first (x ∷ xs) (suc a) zero h = get_or-set_same xs a x 0 (omega arith)
swap_first (x ∷ xs) (suc a) (suc b) h = swap_first xs a b (omega arith)

swap_second : (c : List ℕ) (a b : ℕ) → b < length c → get_or (swap c a b) b 0 ≡ get_or c a 0
swap_second c a b h = get_or-set_same (set c a (get_or c b 0)) b (get_or c a 0) 0 (simp length-set h)

-- x is the cell that a draw reads first, b the place of its second, and c' the box that it leaves
module _ (c c' : List ℕ) (i j x b : ℕ) (at_b : b ≡ (j + x) % 256) (swapped : c' ≡ swap c ((i + 1) % 256) b) (read : x ≡ first_cell c i) where
  -- the box and the indices after it
  pub stepped : wrapped c' (i + 1) (j + x) ≡ step (wrapped c i j)
  unfolding step next_i next_j
  stepped =
      let at_i : (i % 256 + 1) % 256 ≡ (i + 1) % 256 = omega arith in
      let at_j : (j % 256 + x) % 256 ≡ (j + x) % 256 = omega arith in
      rw (swapped, at_b, at_i, ← read, at_j)

  -- its octet
  pub drew : {y p v : ℕ} → y ≡ get_or c b 0 → p ≡ (y + x) % 256 → v ≡ get_or c' p 0 → OctetCells c → v % 256 ≡ drawn (wrapped c i j)
  unfolding drawn
  drew {y} {p} {v} read-y at_p read-v whole =
      let long = whole.long in
      let octet : get_or c' p 0 < 256 = rw swapped ((swap_octets c ((i + 1) % 256) b whole).octets p) in
      let first = swap_first c ((i + 1) % 256) b (omega arith) in
      let second = swap_second c ((i + 1) % 256) b (omega arith) in
      rw (read-v, mod-eq_of_lt octet, ← stepped, at_p) (rw (swapped, ← at_b, first, second, ← read, ← read-y))

-- a cell that is read first is an octet
pub first_octet_lem : {c : List ℕ} {x : ℕ} (i : ℕ) → OctetCells c → x ≡ first_cell c i → x < 256
first_octet_lem i whole read = rw read (whole.octets ((i + 1) % 256))

-- and it is the same from a place that is the same mod 256
pub first_same : (c : List ℕ) (i i' : ℕ) {x : ℕ} → x ≡ first_cell c i → i % 256 ≡ i' % 256 → x ≡ first_cell c i'
first_same c i i' read same =
    let next : (i' + 1) % 256 ≡ (i + 1) % 256 = omega arith in
    rw next read

-- a draw keeps the box's length, and its cells octets
pub step_octets : (s : Rc4) {s' : Rc4} → s' ≡ step s → OctetCells s.cells → OctetCells s'.cells
unfolding step
step_octets s e whole = rw e (swap_octets s.cells (next_i s) (next_j s) whole)

-- a state's own indices are octets, which wrapping leaves as they are
pub unwrapped : (s : Rc4) {c : List ℕ} (i j : ℕ) → c ≡ s.cells → i ≡ s.i → j ≡ s.j → i < 256 → j < 256 → wrapped c i j ≡ s
unwrapped s i j ec ei ej hi hj = rw (mod-eq_of_lt hi, mod-eq_of_lt hj, ec, ei, ej)
