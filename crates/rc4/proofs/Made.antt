-- An array that a closure makes, index by index.
use mathlib.Core.Path.{◌≡◌, refl, sym, ◌∙◌}
use mathlib.Core.Bool.{Bool, true, false}
use mathlib.Core.List.{List, [], ◌∷◌, ◌++◌}
use Prim.Native.Nat.{ℕ, zero, suc, ◌+◌, ◌<◌, ◌≤◌}
use native.Mathlib.Omega.{arith}
use denote.Param.Members.{Mut}
use lib.Bits.{bit_xor}
use lib.Dec.{eqb}
use lib.ListN.{length, get_or}
use borrow.Author.Tests.{eqb-true, eqb-false}
use Rattle.std.specs.Array.{IsFromFnResultFrom, IsFromFnResult}
use Rattle.std.specs.Fn.{Called}
use Rattle.std.proofs.lemmas.List.{ext_get_or, get_or_at, get_or_append_left}
use Rattle.rc4.specs.Cipher.{below}
use Rattle.rc4.specs.Inner.{xors}
use Rattle.rc4.proofs.Permutation.{below_length}

-- xs is the list that has at each index below n what the closure f gives there
module _ {F : Type 0} (g : Mut F (ℕ × Unit {0}) ℕ) (f : F) (xs : List ℕ) (n : ℕ) (long : length xs ≡ n)
    (gives : (i y : ℕ) (q : F) → i < n → Called g f (i, tt) y q → (q ≡ f) × (y ≡ get_or xs i 0)) where
  made_from : (m i : ℕ) (ys : List ℕ) (p : F) → p ≡ f → i + m ≡ n → IsFromFnResultFrom g p ys i m → (k : ℕ) → i ≤ k → k < n → get_or ys k 0 ≡ get_or xs k 0
  made_from zero i ys p same sum all k low high = absurd (omega arith)
  made_from (suc m) i ys p same sum (q, y, here, call, rest) k low high =
      let (unchanged, gave) = gives i y q (omega arith) (rw same at call) in
      go (eqb k i) refl (here.1 0 ∙ gave) (λ h. made_from m (i + 1) ys q unchanged (omega arith) rest k h high)
    where
      go : (t : Bool) → eqb k i ≡ t → get_or ys i 0 ≡ get_or xs i 0 → (i + 1 ≤ k → get_or ys k 0 ≡ get_or xs k 0) → get_or ys k 0 ≡ get_or xs k 0
      go true e at_i behind = rw (eqb-true k i e) at_i
      go false e at_i behind = let other = eqb-false k i e in behind (omega arith)

  -- then it is the array made
  pub made : {ys : List ℕ} → IsFromFnResult g f ys n → ys ≡ xs
  made {ys} r = ext_get_or 0 ys xs (r.long ∙ sym long) (λ k h. made_from n 0 ys f refl (omega arith) r.each k (omega arith) (omega (arith, r.long)))

-- the numbers below n, and two lists xored, by their places
pub below_at : (n i : ℕ) → i < n → get_or (below n) i 0 ≡ i
unfolding below
below_at zero i h = absurd (omega arith)
below_at (suc n) i h = go (eqb i n) refl (below_at n i)
  where
    go : (t : Bool) → eqb i n ≡ t → (i < n → get_or (below n) i 0 ≡ i) → get_or (below n ++ (n ∷ [])) i 0 ≡ i
    go true e front = let last = eqb-true i n e in rw last (get_or_at (below n) n [] 0 n (below_length n))
    go false e front =
        let other = eqb-false i n e in
        let fewer : i < n = omega arith in
        get_or_append_left (below n) (n ∷ []) 0 i (rw below_length fewer) ∙ front fewer

pub length_xors : (xs ys : List ℕ) → length xs ≡ length ys → length (xors xs ys) ≡ length xs
length_xors [] ys e = refl
length_xors (x ∷ xs) [] e = absurd (omega arith)
length_xors (x ∷ xs) (y ∷ ys) e = let rest = length_xors xs ys (omega arith) in omega arith

pub xors_at : (xs ys : List ℕ) (i : ℕ) → i < length xs → i < length ys → get_or (xors xs ys) i 0 ≡ bit_xor (get_or xs i 0) (get_or ys i 0)
xors_at [] ys i hx hy = absurd (omega arith)
xors_at (x ∷ xs) [] i hx hy = absurd (omega arith)
xors_at (x ∷ xs) (y ∷ ys) zero hx hy = refl
xors_at (x ∷ xs) (y ∷ ys) (suc i) hx hy = xors_at xs ys i (omega arith) (omega arith)
