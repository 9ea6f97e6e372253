-- What the proofs of this crate cite: rotations, a part of a buffer written, words written one after the other, octets compared.
use Rattle.std.proofs.Common.{◌≡◌, ℕ, ◌+◌, ◌-◌, ◌*◌, ◌/◌, ◌%◌, ◌^◌, ◌<◌, ◌≤◌, Bool, ◌&&◌, eqb, List, [], ◌∷◌, ◌++◌, length, get_or, take, drop, sym, refl, ap, ◌∙◌, append_assoc, append-nil, add-one, arith, length-append, length-drop, drop_of_length-le, length-take-le, take_all, take-suc, drop-drop, take_at, drop_at, eq-eqb, ne_eqb, le-leb}
use mathlib.Core.Bool.{and_assoc, and-true}
use native.Mathlib.Decide.{ℕ_discrete}
use lib.Bits.{bit_or, bit_xor, or_self, or_zero_r, or_add_and, xor_add_and, and_le_l, and_le_r, xor_self}
use lib.Seq.{take-length}
use borrow.Author.Tests.{lt-leb}
use borrow.Rule.Slice.PartMut.{put_mid}
use Rattle.std.specs.Int.{rotate_left, rotate_right, w32}
use Rattle.octets.specs.Octets.{written, written_at, octets_of, words_of, written_if_room, equal}
use Rattle.octets.specs.declared.Order.{Order}
use Rattle.octets.specs.declared.Order.TheVariants.{HighestFirst, LowestFirst}
use Rattle.octets.specs.Words.{rotl, rotr}

-- std's rotations are these; only by no place do the formulas differ
pub rotl_is : (n x : ℕ) → x < 2 ^ 32 → rotate_left w32 x n ≡ rotl n x
rotl_is n x h = by (ℕ_discrete (n % 32) 0)
  where
    by : Dec (n % 32 ≡ 0) → rotate_left w32 x n ≡ rotl n x
    by (yes e) =
        let same : x * 1 % 2 ^ 32 ≡ x = omega arith in
        let all : x / 1 ≡ x = omega arith in
        let none : x / 2 ^ 32 ≡ 0 = omega arith in
        rw (e, same, all, none, or_zero_r) (or_self x)
    by (no e) = let k : (32 - n % 32) % 32 ≡ 32 - n % 32 = omega arith in rw k

pub rotr_is : (n x : ℕ) → x < 2 ^ 32 → rotate_right w32 x n ≡ rotr n x
rotr_is n x h = by (ℕ_discrete (n % 32) 0)
  where
    by : Dec (n % 32 ≡ 0) → rotate_right w32 x n ≡ rotr n x
    by (yes e) =
        let same : x * 1 % 2 ^ 32 ≡ x = omega arith in
        let all : x / 1 ≡ x = omega arith in
        let none : x * 2 ^ 32 % 2 ^ 32 ≡ 0 = omega arith in
        rw (e, same, all, none, or_zero_r) (or_self x)
    by (no e) = let k : (32 - n % 32) % 32 ≡ 32 - n % 32 = omega arith in rw k

-- a copy into the part of a buffer from a place on
pub copy_part : (at : ℕ) (q out : List ℕ) {p ys : List ℕ} → p ≡ take (length out - at) (drop at out) → ys ≡ written (take (length p) q) p
    → at ≤ length out → put_mid at (length out - at) out ys ≡ written_at at (take (length out - at) q) out
copy_part at q out ep ey h =
    let whole : length (drop at out) ≡ length out - at = length-drop at out in
    let p : take (length out - at) (drop at out) ≡ drop at out = take_all (length out - at) (drop at out) (omega arith) in
    let none : drop (length out - at) (drop at out) ≡ [] = drop_of_length-le (drop at out) {i = length out - at} (omega arith) in
    rw (ey, ep, p, none, whole, append-nil)

-- a place behind the buffer
pub copy_behind : (at : ℕ) (q out : List ℕ) → length out < at → out ≡ written_at at (take (length out - at) q) out
copy_behind at q out h =
    let none : length out - at ≡ 0 = omega arith in
    rw (none, take_all at out (omega arith), drop_of_length-le out {i = at} (omega arith), append-nil)

-- a word is four octets, in either order
length_octets_lem : (order : Order) (w : ℕ) → length (octets_of order 4 w) ≡ 4
length_octets_lem HighestFirst w = refl
length_octets_lem LowestFirst w = refl

pub length_words : (order : Order) (ws : List ℕ) → length (words_of order ws) ≡ 4 * length ws
length_words order [] = refl
length_words order (w ∷ ws) = rw (length-append, length_octets_lem order w, length_words order ws) (omega arith)

words_snoc : (order : Order) (ws : List ℕ) (w : ℕ) → words_of order (ws ++ w ∷ []) ≡ words_of order ws ++ octets_of order 4 w
words_snoc order [] w = rw append-nil
words_snoc order (v ∷ ws) w = rw (words_snoc order ws w, append_assoc)

-- one word more is written
pub words_more : {out q : List ℕ} (order : Order) (ws out₀ : List ℕ) (i k : ℕ) → out ≡ written (words_of order (take i ws)) out₀
    → q ≡ octets_of order 4 (get_or ws i 0) → k ≡ 4 → i < length ws
    → put_mid (4 * i) k out q ≡ written (words_of order (take (i + 1) ws)) out₀
words_more order ws out₀ i k e eq ek h =
    let w : List ℕ = words_of order (take i ws) in
    let l : length w ≡ 4 * i = length_words order (take i ws) ∙ ap (λ (n : ℕ). 4 * n) (length-take-le i ws (omega arith)) in
    rw
    (e, eq, ek, add-one, take-suc ws i 0 h, words_snoc, l, take_at w (drop (4 * i) out₀) (4 * i) l, drop_at w (drop (4 * i) out₀) (4 * i) l, length-append, l, length_octets_lem, drop-drop, append_assoc)

-- the whole result is written where it has room
pub words_all : {out : List ℕ} (order : Order) (ws out₀ : List ℕ) (i : ℕ) → out ≡ written (words_of order (take i ws)) out₀ → i ≡ length ws
    → 4 * length ws ≤ length out₀ → out ≡ written_if_room (words_of order ws) out₀
words_all order ws out₀ i e ei h = e ∙ rw (ei, take-length, length_words, le-leb (4 * length ws) (length out₀) h)

-- nothing is written where it has not
pub words_none : (order : Order) (ws out : List ℕ) → length out / 4 < length ws → out ≡ written_if_room (words_of order ws) out
words_none order ws out h = rw (length_words, lt-leb (4 * length ws) (length out) (omega arith))

-- octets differ nowhere exactly if the differences, joined, are 0
or_none : (a b : ℕ) → bit_or a b ≡ 0 → (a ≡ 0) × (b ≡ 0)
or_none a b e =
    let s = or_add_and a b in
    let l = and_le_l a b in
    let r = and_le_r a b in
    (omega arith, omega arith)

xor_none : (a b : ℕ) → bit_xor a b ≡ 0 → a ≡ b
xor_none a b e =
    let s = xor_add_and a b in
    let l = and_le_l a b in
    let r = and_le_r a b in
    omega arith

difference : (d x y : ℕ) → eqb (bit_or d (bit_xor x y)) 0 ≡ (eqb d 0 && eqb x y)
difference d x y = go (ℕ_discrete d 0) (ℕ_discrete x y)
  where
    go : Dec (d ≡ 0) → Dec (x ≡ y) → eqb (bit_or d (bit_xor x y)) 0 ≡ (eqb d 0 && eqb x y)
    go (yes p) (yes q) = rw (p, q, xor_self y, eq-eqb y y refl)
    go (yes p) (no q) = rw (p, ne_eqb x y q, ne_eqb (bit_or 0 (bit_xor x y)) 0 (λ e. q (xor_none x y (or_none 0 (bit_xor x y) e).1)))
    go (no p) q = rw (ne_eqb d 0 p, ne_eqb (bit_or d (bit_xor x y)) 0 (λ e. p (or_none d (bit_xor x y) e).0))

-- one octet more is compared, and none is left of texts of one length
pub compared : {t : Bool} {a b a' b' : List ℕ} (d x y : ℕ) → t ≡ (eqb d 0 && equal a b) → a ≡ x ∷ a' → b ≡ y ∷ b'
    → t ≡ (eqb (bit_or d (bit_xor x y)) 0 && equal a' b')
unfolding equal
compared d x y e ea eb = e ∙ rw (ea, eb, difference d x y, and_assoc)

pub compared_all : {t : Bool} (a b : List ℕ) (d : ℕ) → t ≡ (eqb d 0 && equal a b) → length a ≡ length b → length a ≡ 0 → eqb d 0 ≡ t
unfolding equal
compared_all [] [] d e l none = sym (e ∙ and-true (eqb d 0))
compared_all (x ∷ xs) b d e l none = absurd (omega arith)
compared_all [] (y ∷ ys) d e l none = absurd (omega arith)
