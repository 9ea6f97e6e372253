-- MD4, as RFC 1320 defines it.
use Rattle.std.specs.Prelude.{List, [], ◌∷◌, ℕ, ◌*◌, ◌%◌, ltb, length, get_or, Result}
use Rattle.std.specs.Int.Bits.{bit_and, bit_or, bit_xor}
use Rattle.answer.specs.declared.Refusal.{Refusal}
use Rattle.answer.specs.Answer.{size, pick, first_of, result_of}
use Rattle.octets.specs.declared.Order.TheVariants.{LowestFirst}
use Rattle.octets.specs.Octets.{word_le, words_of, longest_text}
use Rattle.octets.specs.Words.{◌⊞◌, rotl, complement}
use Rattle.blocks.specs.Blocks.{rounds, hashed}
use Rattle.md4.specs.declared.State.{State}

-- 3.3: the words A, B, C, D at first
abbrev pub initial : State
initial = record { a = 0x67452301; b = 0xefcdab89; c = 0x98badcfe; d = 0x10325476 }

-- 3.4: the functions F, G, H
abbrev pub f : ℕ → ℕ → ℕ → ℕ
f x y z = bit_or (bit_and x y) (bit_and (complement x) z)

abbrev pub g : ℕ → ℕ → ℕ → ℕ
g x y z = bit_or (bit_or (bit_and x y) (bit_and x z)) (bit_and y z)

abbrev pub h : ℕ → ℕ → ℕ → ℕ
h x y z = bit_xor (bit_xor x y) z

-- of operation t, 0 to 47, sixteen a round: the function, the number added, the word of the block, the places to rotate by
unfoldable pub mixed : ℕ → ℕ → ℕ → ℕ → ℕ
mixed t x y z = pick (ltb t 16) (f x y z) (pick (ltb t 32) (g x y z) (h x y z))

unfoldable pub constant : ℕ → ℕ
constant t = pick (ltb t 16) 0 (pick (ltb t 32) 0x5a827999 0x6ed9eba1)

unfoldable pub places : List ℕ
places =
    0 ∷ 1 ∷ 2 ∷ 3 ∷ 4 ∷ 5 ∷ 6 ∷ 7 ∷ 8 ∷ 9 ∷ 10 ∷ 11 ∷ 12 ∷ 13 ∷ 14 ∷ 15 ∷
    0 ∷ 4 ∷ 8 ∷ 12 ∷ 1 ∷ 5 ∷ 9 ∷ 13 ∷ 2 ∷ 6 ∷ 10 ∷ 14 ∷ 3 ∷ 7 ∷ 11 ∷ 15 ∷
    0 ∷ 8 ∷ 4 ∷ 12 ∷ 2 ∷ 10 ∷ 6 ∷ 14 ∷ 1 ∷ 9 ∷ 5 ∷ 13 ∷ 3 ∷ 11 ∷ 7 ∷ 15 ∷ []

unfoldable pub shift : ℕ → ℕ
shift t =
    get_or (pick (ltb t 16) (3 ∷ 7 ∷ 11 ∷ 19 ∷ []) (pick (ltb t 32) (3 ∷ 5 ∷ 9 ∷ 13 ∷ []) (3 ∷ 9 ∷ 11 ∷ 15 ∷ []))) (t % 4) 0

-- operation t, [abcd k s]: a = (a + F(b,c,d) + X[k]) <<< s. The next one is [dabc ..], so the words change their names
unfoldable pub operation : List ℕ → ℕ → State → State
operation block t s = record {
  a = s.d;
  b = rotl (shift t) (s.a ⊞ mixed t s.b s.c s.d ⊞ word_le block (4 * get_or places t 0) ⊞ constant t);
  c = s.b;
  d = s.c;
}

-- the words after the three rounds added to those before
abbrev pub added : State → State → State
added s₀ s = record { a = s.a ⊞ s₀.a; b = s.b ⊞ s₀.b; c = s.c ⊞ s₀.c; d = s.d ⊞ s₀.d }

-- the words after one block more
unfoldable pub compress : State → List ℕ → State
compress s block = added s (rounds (operation block) 0 48 s)

-- 3.5: the message digest, beginning with the low-order octet of A
abbrev pub octets_in : State → List ℕ
octets_in s = words_of LowestFirst (s.a ∷ s.b ∷ s.c ∷ s.d ∷ [])

-- 3.1, 3.2: the padding; its length's low-order octet comes first
unfoldable pub md4 : List ℕ → List ℕ
md4 m = octets_in (hashed compress LowestFirst initial m)

-- the number that the call answers
abbrev pub md4_code : List ℕ → ℕ
md4_code m = first_of ((size, ltb longest_text (length m)) ∷ [])

-- the answer to a text of any length
unfoldable pub md4_answer : List ℕ → Result (List ℕ) Refusal
md4_answer m = result_of (md4_code m) (md4 m)
