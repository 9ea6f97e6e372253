-- The laws of selection by a table.
use mathlib.Core.Path.{◌≡◌, refl, sym, ap, ap₂, ◌∙◌}
use mathlib.Core.List.{List, [], ◌∷◌, ◌++◌}
use Prim.Native.Nat.{ℕ, zero, suc, ◌+◌, ◌-◌, ◌*◌, ◌/◌, ◌%◌, ◌^◌, ◌<◌}
use native.Mathlib.Nat.{pow-suc, pow-zero, lt_of_lt_of_le, pow-le-pow_right, add-zero, zero-add, mul-one, zero-div, zero-mod, mod-lt, add-mul, mul_assoc, div-one, div-lt_iff_lt-mul, one-mul, mod-one, mod-eq_of_lt, not-suc-le-zero, le_of_suc-le-suc}
use native.Mathlib.Numerals.{add-one, one-add}
use native.Mathlib.Omega.{arith}
use lib.Arith.{lt-one}
use lib.Bits.{block_half, block_odd, shifted_half, shifted_even}
use lib.ListN.{length, get_or, take}
use lib.Seq.{take-suc}
use Rattle.std.specs.List.{concat}
use Rattle.std.proofs.lemmas.List.Folds.{concat-append}
use Rattle.std.proofs.lemmas.Nat.{div-add-mod'}
use Rattle.std.proofs.Common.{append-nil, length-take-le, ◌≤◌}
use lib.Pow.{pow_pos, pow-add, shr-shr, shl_lt, mod-pow-add}
use Rattle.des.specs.Des.{bit, followed, selected}

half_lt : (k : ℕ) {b : ℕ} → b < 2 ^ suc k → b / 2 < 2 ^ k
half_lt k h = let e : 2 ^ suc k ≡ 2 ^ k * 2 = pow-suc 2 k in omega arith

pub half_shr : (x i : ℕ) → x / 2 ^ suc i ≡ x / 2 / 2 ^ i
half_shr x i = rw (shr-shr x 1 i) (ap (λ (n : ℕ). x / 2 ^ n) (omega arith))

-- the bits of a number and of one below it share no place
bit_add : (i k a b : ℕ) → b < 2 ^ k → (a * 2 ^ k + b) / 2 ^ i % 2 ≡ a * 2 ^ k / 2 ^ i % 2 + b / 2 ^ i % 2
bit_add i zero a b h = rw (lt-one h, zero-div, zero-mod, add-zero, add-zero)
bit_add zero (suc k) a b h = rw (pow-zero, div-one, div-one, div-one, block_odd, shifted_even) (sym (zero-add (b % 2)))
bit_add (suc i) (suc k) a b h =
    rw (half_shr (a * 2 ^ suc k + b) i, half_shr (a * 2 ^ suc k) i, half_shr b i, block_half, shifted_half) (bit_add i k a (b / 2) (half_lt k h))

followed_add : (w k a b p q : ℕ) (t : List ℕ) → b < 2 ^ k
    → followed w (a * 2 ^ k + b) (p + q) t ≡ followed w (a * 2 ^ k) p t + followed w b q t
followed_add w k a b p q [] h = refl
followed_add w k a b p q (n ∷ ns) h =
    rw (bit_add (w - n) k a b h)
    (ap (λ (m : ℕ). followed w (a * 2 ^ k + b) m ns) (omega arith)
    ∙ followed_add w k a b (p * 2 + bit w (a * 2 ^ k) n) (q * 2 + bit w b n) ns h)

-- a table selects from a number and from one below it apart
pub selected_add : (w k a b : ℕ) (t : List ℕ) → b < 2 ^ k
    → selected w t (a * 2 ^ k + b) ≡ selected w t (a * 2 ^ k) + selected w t b
unfolding selected
selected_add w k a b t h = followed_add w k a b 0 0 t h

followed_zero : (w : ℕ) (t : List ℕ) → followed w 0 0 t ≡ 0
followed_zero w [] = refl
followed_zero w (n ∷ ns) = rw (zero-div (2 ^ (w - n))) (followed_zero w ns)

pub selected_zero : (w : ℕ) (t : List ℕ) → selected w t 0 ≡ 0
unfolding selected
selected_zero w t = followed_zero w t

-- four more bits
pub more : (w q m a v r s : ℕ) (t : List ℕ) → r * 2 ^ q ≡ selected w t (a * 2 ^ (4 + m)) → s * 2 ^ q ≡ selected w t (v * 2 ^ m) → v < 16
    → (r + s) * 2 ^ q ≡ selected w t ((a * 16 + v) * 2 ^ m)
more w q m a v r s t er es h =
    add-mul r s (2 ^ q) ∙ ap₂ (λ (x y : ℕ). x + y) er es ∙ sym (selected_add w (4 + m) a (v * 2 ^ m) t (shl_lt 4 m h))
    ∙ ap (selected w t) (rw (pow-add 2 4 m, ← mul_assoc a 16 (2 ^ m)) (sym (add-mul (a * 16) v (2 ^ m))))

pub four_more : (w m a v r s : ℕ) (t : List ℕ) → r ≡ selected w t (a * 2 ^ (4 + m)) → s ≡ selected w t (v * 2 ^ m) → v < 16
    → r + s ≡ selected w t ((a * 16 + v) * 2 ^ m)
four_more w m a v r s t er es h =
    sym (mul-one (r + s)) ∙ more w 0 m a v r s t (mul-one r ∙ er) (mul-one s ∙ es) h

-- what stood before
front : (w x a : ℕ) (t : List ℕ) → followed w x a t / 2 ^ length t ≡ a
front w x a [] = div-one a
front w x a (n ∷ ns) =
    let l : bit w x n < 2 = mod-lt (x / 2 ^ (w - n)) (omega arith) in
    sym (shr-shr (followed w x (a * 2 + bit w x n) ns) (length ns) 1 ∙ ap (λ (m : ℕ). followed w x (a * 2 + bit w x n) ns / 2 ^ m) (add-one (length ns)))
    ∙ rw (front w x (a * 2 + bit w x n) ns) (omega arith)

pub selected_lt : (w x : ℕ) (t : List ℕ) → selected w t x < 2 ^ length t
unfolding selected
selected_lt w x t =
    let e : followed w x 0 t / 2 ^ length t ≡ 0 = front w x 0 t in
    rw (← one-mul (2 ^ length t)) ((div-lt_iff_lt-mul (pow_pos (length t))).0 (omega arith))

-- bit k of what a table selects is the bit that the table names there
pub followed_bit : (w x a k : ℕ) (t : List ℕ) → k < length t → followed w x a t / 2 ^ (length t - suc k) % 2 ≡ bit w x (get_or t k 0)
followed_bit w x a k [] h = absurd (not-suc-le-zero h)
followed_bit w x a zero (n ∷ ns) h =
    let e : suc (length ns) - 1 ≡ length ns = omega arith in
    let l : bit w x n < 2 = mod-lt (x / 2 ^ (w - n)) (omega arith) in
    rw (e, front w x (a * 2 + bit w x n) ns) (omega arith)
followed_bit w x a (suc k) (n ∷ ns) h =
    let e : suc (length ns) - suc (suc k) ≡ length ns - suc k = omega arith in
    rw e (followed_bit w x (a * 2 + bit w x n) k ns (le_of_suc-le-suc h))

-- two numbers with the same k low bits
pub same_bits : (k x y : ℕ) → ((j : ℕ) → j < k → x / 2 ^ j % 2 ≡ y / 2 ^ j % 2) → x % 2 ^ k ≡ y % 2 ^ k
same_bits zero x y h = mod-one x ∙ sym (mod-one y)
same_bits (suc k) x y h =
    rw (← one-add k, mod-pow-add x 1 k, mod-pow-add y 1 k, h k (omega arith), same_bits k x y (λ j l. h j (omega arith)))

-- what stands before is left out
back : (w x a : ℕ) (t : List ℕ) → followed w x a t % 2 ^ length t ≡ selected w t x
unfolding selected
back w x a t =
    same_bits (length t) (followed w x a t) (followed w x 0 t)
    (λ j h.
    let k = length t - suc j in
    let e : length t - suc k ≡ j = omega arith in
    rw e at (followed_bit w x a k t (omega arith) ∙ sym (followed_bit w x 0 k t (omega arith))))
    ∙ mod-eq_of_lt (selected_lt w x t)

followed_append : (w x a : ℕ) (s t : List ℕ) → followed w x a (s ++ t) ≡ followed w x (followed w x a s) t
followed_append w x a [] t = refl
followed_append w x a (n ∷ s) t = followed_append w x (a * 2 + bit w x n) s t

-- behind what stands before there is what the table selects
followed_behind : (w x a : ℕ) (t : List ℕ) → followed w x a t ≡ a * 2 ^ length t + selected w t x
unfolding selected
followed_behind w x a t =
    sym (div-add-mod' (followed w x a t) (2 ^ length t)) ∙ ap₂ (λ (p q : ℕ). p * 2 ^ length t + q) (front w x a t) (back w x a t)

-- one bit more, and one row of eight
pub bit_more : (w x r i : ℕ) (t : List ℕ) → r ≡ selected w (take i t) x → i < length t
    → r * 2 + bit w x (get_or t i 0) ≡ selected w (take (i + 1) t) x
unfolding selected
bit_more w x r i t e h = rw (e, add-one, take-suc t i 0 h, followed_append w x 0 (take i t) (get_or t i 0 ∷ []))

pub bits_lt : (w x r i : ℕ) (t : List ℕ) → r ≡ selected w (take i t) x → i ≤ length t → i ≤ 8 → r < 256
bits_lt w x r i t e h few =
    let long : length (take i t) ≡ i = length-take-le i t h in
    rw e (lt_of_lt_of_le (selected_lt w x (take i t)) (rw long (pow-le-pow_right {n = 2} (omega arith) {i = i} {j = 8} few)))

pub row_more : (w x r s i : ℕ) (t : List (List ℕ)) → r ≡ selected w (concat (take i t)) x → s ≡ selected w (get_or t i []) x
    → length (get_or t i []) ≡ 8 → i < length t → r * 256 + s ≡ selected w (concat (take (i + 1) t)) x
unfolding selected
row_more w x r s i t er es long h =
    rw
    (er, es, add-one, take-suc t i [] h, concat-append, append-nil, followed_append w x 0 (concat (take i t)) (get_or t i []), followed_behind w x (followed w x 0 (concat (take i t))) (get_or t i []), long)

-- what two tables select, one after the other
pub left : (w x : ℕ) (s t : List ℕ) → selected w (s ++ t) x / 2 ^ length t ≡ selected w s x
unfolding selected
left w x s t = rw (followed_append w x 0 s t) (front w x (followed w x 0 s) t)

pub right : (w x : ℕ) (s t : List ℕ) → selected w (s ++ t) x % 2 ^ length t ≡ selected w t x
unfolding selected
right w x s t = rw (followed_append w x 0 s t) (back w x (followed w x 0 s) t)
