-- What callers need of octets: a number and its octets, a copy one octet longer, one that has room, texts put together in a local buffer,
-- and texts compared.
use Rattle.std.specs.Prelude.{◌≡◌, ℕ, zero, suc, ◌+◌, ◌-◌, ◌*◌, ◌/◌, ◌%◌, ◌^◌, ◌<◌, ◌≤◌, Bool, true, false, List, [], ◌∷◌, ◌++◌, length, take, drop, replicate, ◌==◌, ◌≢◌, slice_index, slice_set, refl}
use Rattle.std.proofs.Common.{sym, ap, ◌∙◌, append_assoc, pow-suc, mul_comm, mul_assoc, add-mul, add_assoc, add-one, arith, length-append, length-take-le, take-suc, take_all, drop-cons, drop-drop, eq-eqb, eqb-true}
use Rattle.std.proofs.lemmas.Bool.{false≢true}
use Rattle.std.proofs.Math.Nat.{pow-zero, mod-one}
use Rattle.std.proofs.Math.Arith.{mod-mul}
use Rattle.std.proofs.lemmas.List.{length-replicate, set_at}
use Rattle.std.proofs.Math.Seq.{take-append_seam, drop-append-add}
use Rattle.octets.specs.Octets.{big_endian, joined, from_big_endian, written, written_at, equal}

-- the octets of a number, and the number back from them
pub big_endian_length : (k n : ℕ) → length (big_endian k n) ≡ k
big_endian_length zero n = refl
big_endian_length (suc k) n = ap suc (big_endian_length k n)

positive : (k : ℕ) → 0 < 256 ^ k
positive zero = omega arith
positive (suc k) = let h = positive k in rw (pow-suc 256 k) (omega arith)

joined_back : (a k n : ℕ) → joined a (big_endian k n) ≡ a * 256 ^ k + n % 256 ^ k
joined_back a zero n = rw (pow-zero, mod-one) (omega arith)
joined_back a (suc k) n =
    joined_back (a * 256 + n / 256 ^ k % 256) k n
    ∙ rw
    (pow-suc 256 k, mul_comm (256 ^ k) 256, mod-mul n {m = 256} (omega arith) (positive k), add-mul (a * 256) (n / 256 ^ k % 256) (256 ^ k), mul_assoc a 256 (256 ^ k), add_assoc)

pub joined_none : (l : List ℕ) → joined 0 l ≡ from_big_endian l
joined_none [] = refl
joined_none (x ∷ xs) = ap (λ (n : ℕ). joined n xs) (omega arith)

pub big_endian_back : (k n : ℕ) → from_big_endian (big_endian k n) ≡ n % 256 ^ k
big_endian_back k n = sym (joined_none (big_endian k n)) ∙ joined_back 0 k n ∙ omega arith

-- as many octets as are taken
pub count : (n : ℕ) (l : List ℕ) → n ≤ length l → n ≡ length (take n l)
count n l h = sym (length-take-le n l h)

-- a copy one octet longer
pub copy_more : {to : List ℕ} (from to₀ : List ℕ) (i : ℕ) → to ≡ written (take i from) to₀ → i < length from → i < length to₀
    → slice_set to i (slice_index from i) ≡ written (take (i + 1) from) to₀
copy_more from to₀ i e hf ht =
    let l : length (take i from) ≡ i = length-take-le i from (omega arith) in
    let l' : length (take (suc i) from) ≡ suc i = length-take-le (suc i) from (omega arith) in
    rw
    (e, add-one, l, l', drop-cons to₀ i 0 ht, set_at (take i from) (slice_index to₀ i) (drop (suc i) to₀) (slice_index from i) i l, take-suc from i 0 hf, append_assoc)

-- a copy that has room
pub copy_fits : (at : ℕ) (q out : List ℕ) → at + length q ≤ length out
    → written_at at (take (length out - at) q) out ≡ take at out ++ q ++ drop (at + length q) out
copy_fits at q out h = rw (take_all (length out - at) q (omega arith), drop-drop, append_assoc)

-- zeros without the first k
pub drop_zeros : (k n : ℕ) → drop {A = ℕ} k (replicate n 0) ≡ replicate (n - k) 0
drop_zeros zero n =
    let same : n - 0 ≡ n = omega arith in
    rw same
drop_zeros (suc k) zero =
    let none : 0 - suc k ≡ 0 = omega arith in
    rw none
drop_zeros (suc k) (suc n) =
    let less : suc n - suc k ≡ n - k = omega arith in
    rw less (drop_zeros k n)

-- octets copied behind others that a buffer begins with, and behind others that stand in front of zeros
pub grown : {t t' : List ℕ} (l rest q : List ℕ) (at : ℕ) → t ≡ l ++ rest → t' ≡ written_at at (take (length t - at) q) t → length l ≡ at
    → length q ≤ length rest → t' ≡ (l ++ q) ++ drop (length q) rest
grown {t} l rest q at e e' h hq =
    let size : length t ≡ length l + length rest = ap length e ∙ length-append l rest in
    e' ∙ copy_fits at q t (omega arith) ∙ rw (e, ← h, take-append_seam l rest, drop-append-add l rest (length q), append_assoc)

pub append_more : {b b' : List ℕ} (l q : List ℕ) (at n : ℕ) → b ≡ l ++ replicate n 0 → b' ≡ written_at at (take (length b - at) q) b → at ≡ length l
    → length q ≤ n → b' ≡ (l ++ q) ++ replicate (n - length q) 0
append_more l q at n e e' ea h =
    let long : length (replicate {A = ℕ} n 0) ≡ n = length-replicate n 0 in
    grown l (replicate n 0) q at e e' (sym ea) (omega arith) ∙ rw drop_zeros

-- one part more behind what is written into the front of a buffer
pub written_more : {t t' : List ℕ} (l out q : List ℕ) (at : ℕ) → t ≡ written l out → t' ≡ take at t ++ q ++ drop (at + length q) t → length l ≡ at
    → t' ≡ written (l ++ q) out
written_more l out q at e e' h =
    rw
    (e', e, ← h, take-append_seam l (drop (length l) out), drop-append-add l (drop (length l) out) (length q), drop-drop (length q) (length l) out, length-append l q, append_assoc)

-- a comparison is a yes for the same octets, and for no others
pub equal_same : (a : List ℕ) → equal a a ≡ true
unfolding equal
equal_same [] = refl
equal_same (x ∷ xs) = rw (eq-eqb x x refl, equal_same xs)

pub equal_true : (a b : List ℕ) → equal a b ≡ true → a ≡ b
unfolding equal
equal_true [] [] h = refl
equal_true [] (y ∷ ys) h = absurd (false≢true h)
equal_true (x ∷ xs) [] h = absurd (false≢true h)
equal_true (x ∷ xs) (y ∷ ys) h = go (x == y) refl (equal_true xs ys)
  where
    go : (t : Bool) → (x == y) ≡ t → (equal xs ys ≡ true → xs ≡ ys) → x ∷ xs ≡ y ∷ ys
    go true e rest = rw (eqb-true x y e, rest (rw e at h))
    go false e rest = absurd (false≢true (rw e at h))

pub equal_lengths : (a b : List ℕ) → (length a ≢ length b) → false ≡ equal a b
equal_lengths a b h = by (equal a b) refl
  where
    by : (t : Bool) → equal a b ≡ t → false ≡ t
    by true e = absurd (h (ap length (equal_true a b e)))
    by false e = refl
