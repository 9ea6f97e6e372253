-- SHA-1, as FIPS 180-4 defines it.
use Rattle.std.specs.Prelude.{List, [], ◌∷◌, ℕ, ◌-◌, ltb, length, get_or, Result}
use Rattle.std.specs.Int.Bits.{bit_and, bit_xor}
use Rattle.answer.specs.declared.Refusal.{Refusal}
use Rattle.answer.specs.Answer.{size, pick, first_of, result_of}
use Rattle.octets.specs.declared.Order.TheVariants.{HighestFirst}
use Rattle.octets.specs.Octets.{words_of, longest_text}
use Rattle.octets.specs.Words.{◌⊞◌, rotl, complement}
use Rattle.blocks.specs.Blocks.{schedule, next_word, rounds, hashed}
use Rattle.sha_1.specs.declared.State.{State}

-- 4.1.1: the functions
abbrev pub ch : ℕ → ℕ → ℕ → ℕ
ch x y z = bit_xor (bit_and x y) (bit_and (complement x) z)

abbrev pub parity : ℕ → ℕ → ℕ → ℕ
parity x y z = bit_xor (bit_xor x y) z

abbrev pub maj : ℕ → ℕ → ℕ → ℕ
maj x y z = bit_xor (bit_xor (bit_and x y) (bit_and x z)) (bit_and y z)

unfoldable pub f : ℕ → ℕ → ℕ → ℕ → ℕ
f t x y z = pick (ltb t 20) (ch x y z) (pick (ltb t 40) (parity x y z) (pick (ltb t 60) (maj x y z) (parity x y z)))

-- 4.2.1: the constants
unfoldable pub k : ℕ → ℕ
k t = pick (ltb t 20) 0x5a827999 (pick (ltb t 40) 0x6ed9eba1 (pick (ltb t 60) 0x8f1bbcdc 0xca62c1d6))

-- 5.3.1: the initial hash value
abbrev pub initial : State
initial = record { a = 0x67452301; b = 0xefcdab89; c = 0x98badcfe; d = 0x10325476; e = 0xc3d2e1f0 }

-- 6.1.2, step 1: word t of the message schedule, from the words before it
abbrev pub late_word : List ℕ → ℕ → ℕ
late_word w t = rotl 1 (bit_xor (bit_xor (bit_xor (get_or w (t - 3) 0) (get_or w (t - 8) 0)) (get_or w (t - 14) 0)) (get_or w (t - 16) 0))

-- step 3: round t, on the working variables
unfoldable pub round : List ℕ → ℕ → State → State
round w t s = record {
  a = rotl 5 s.a ⊞ f t s.b s.c s.d ⊞ s.e ⊞ k t ⊞ get_or w t 0;
  b = s.a;
  c = rotl 30 s.b;
  d = s.c;
  e = s.d;
}

-- step 4: the working variables added to the hash value
abbrev pub added : State → State → State
added h s = record { a = s.a ⊞ h.a; b = s.b ⊞ h.b; c = s.c ⊞ h.c; d = s.d ⊞ h.d; e = s.e ⊞ h.e }

-- steps 1 to 4: the hash value after one block more
unfoldable pub compress : State → List ℕ → State
compress h block = added h (rounds (round (schedule (next_word late_word block) 80)) 0 80 h)

-- the message digest
abbrev pub octets_in : State → List ℕ
octets_in h = words_of HighestFirst (h.a ∷ h.b ∷ h.c ∷ h.d ∷ h.e ∷ [])

unfoldable pub sha1 : List ℕ → List ℕ
sha1 m = octets_in (hashed compress HighestFirst initial m)

-- the number that the call answers
abbrev pub sha1_code : List ℕ → ℕ
sha1_code m = first_of ((size, ltb longest_text (length m)) ∷ [])

-- the answer to a text of any length
unfoldable pub sha1_answer : List ℕ → Result (List ℕ) Refusal
sha1_answer m = result_of (sha1_code m) (sha1 m)
