-- DES as FIPS 46-3 has it ("Enciphering", "The Cipher Function f" and, for the key schedule, Appendix 1): one block of 64 bits enciphered.
-- A block of bits is the number that they are in base 2. The standard numbers the bits of a block from left to right, from 1.
use Rattle.std.specs.Prelude.{List, [], ◌∷◌, map, ℕ, zero, suc, ◌+◌, ◌-◌, ◌*◌, ◌/◌, ◌%◌, ◌^◌, get_or, Result}
use Rattle.std.specs.Int.Bits.{bit_xor}
use Rattle.answer.specs.declared.Refusal.{Refusal}
use Rattle.answer.specs.Answer.{size, first_of, result_of, wrong}
use Rattle.octets.specs.Octets.{big_endian, from_big_endian}
use Rattle.des.specs.declared.Halves.{Halves}
use Rattle.des.specs.Tables.{initial, inverse, expansion, permutation, boxes, choice1_c, choice1_d, choice2, shifts}

-- bit n of x, a block of w bits
abbrev pub bit : ℕ → ℕ → ℕ → ℕ
bit w x n = x / 2 ^ (w - n) % 2

-- the block a and then the bits of x, a block of w bits, that a table names, in its order
abbrev pub followed : ℕ → ℕ → ℕ → List ℕ → ℕ
followed w x a [] = a
followed w x a (n ∷ ns) = followed w x (a * 2 + bit w x n) ns

-- the bits of x, a block of w bits, that a table names, in its order
unfoldable pub selected : ℕ → List ℕ → ℕ → ℕ
selected w table x = followed w x 0 table

-- "The Cipher Function f": S(B), in the row i that the first and last bits of B name and the column j that its middle four bits name
abbrev pub substitution : List ℕ → ℕ → ℕ
substitution s b = get_or s (16 * (b / 32 * 2 + b % 2) + b / 2 % 16) 0

-- S1(B1)S2(B2)..Sn(Bn), where B1B2..B8 is a block of 48 bits
unfoldable pub substituted : ℕ → ℕ → ℕ
substituted b zero = 0
substituted b (suc n) = substituted b n * 16 + substitution (get_or boxes n []) (b / 2 ^ (42 - 6 * n) % 64)

-- f(R,K) = P(S1(B1)S2(B2)..S8(B8)), where B1B2..B8 = K ⊕ E(R)
unfoldable pub cipher_function : ℕ → ℕ → ℕ
cipher_function r k = selected 32 permutation (substituted (bit_xor (selected 32 expansion r) k) 8)

-- Appendix 1, "Key Schedule": where the standard's bit n of a key of 64 bits stands in the 56 bits of a key without its parity bits 8, 16, .., 64
-- (RFC 2759, 8.6, puts a parity bit after each seven bits)
abbrev pub place : ℕ → ℕ
place n = n - n / 8

-- a block of 28 bits shifted left, where the bits that leave on the left come back on the right
abbrev pub left_shift : ℕ → ℕ → ℕ
left_shift s c = c * 2 ^ s % 2 ^ 28 + c / 2 ^ (28 - s)

-- Cn, or Dn, by the half of PC-1 that gives C0, or D0
unfoldable pub half : List ℕ → ℕ → ℕ → ℕ
half choice1 key zero = selected 56 (map place choice1) key
half choice1 key (suc n) = left_shift (get_or shifts n 0) (half choice1 key n)

-- Kn = KS(n, KEY): PC-2 of CnDn
unfoldable pub subkey : ℕ → ℕ → ℕ
subkey key n = selected 56 choice2 (half choice1_c key n * 2 ^ 28 + half choice1_d key n)

-- "Enciphering": L'R' from LR, by L' = R and R' = L ⊕ f(R,K)
abbrev pub iteration : Halves → ℕ → Halves
iteration h k = record { left = h.right; right = bit_xor h.left (cipher_function h.right k) }

-- LnRn, from the permuted input L0R0
unfoldable pub iterated : ℕ → ℕ → ℕ → Halves
iterated key x zero = record { left = x / 2 ^ 32; right = x % 2 ^ 32 }
iterated key x (suc n) = iteration (iterated key x n) (subkey key (suc n))

-- the preoutput block R16L16
abbrev pub preoutput : Halves → ℕ
preoutput h = h.right * 2 ^ 32 + h.left

-- the block x enciphered
unfoldable pub enciphered : ℕ → ℕ → ℕ
enciphered key x = selected 64 inverse (preoutput (iterated key (selected 64 initial x) 16))

-- a block of octets enciphered under a key of octets
unfoldable pub encrypted : (key block : List ℕ) → List ℕ
encrypted key block = big_endian 8 (enciphered (from_big_endian key) (from_big_endian block))

-- octets in a key, without parity bits (01, "Lengths")
abbrev pub key_octets : ℕ
key_octets = 7

-- octets in a block (01, "Lengths")
abbrev pub block_octets : ℕ
block_octets = 8

-- the number that the call answers
abbrev pub encrypt_code : (key block : List ℕ) → ℕ
encrypt_code key block = first_of ((size, wrong key_octets key) ∷ (size, wrong block_octets block) ∷ [])

-- the answer to a key and a block of any lengths
unfoldable pub encrypt_answer : (key block : List ℕ) → Result (List ℕ) Refusal
encrypt_answer key block = result_of (encrypt_code key block) (encrypted key block)
