-- SHA-256, as FIPS 180-4 defines it.
use Rattle.std.specs.Prelude.{List, [], ◌∷◌, ℕ, ◌-◌, ◌/◌, ◌^◌, ltb, length, get_or, Result}
use Rattle.std.specs.Int.Bits.{bit_and, bit_xor}
use Rattle.answer.specs.declared.Refusal.{Refusal}
use Rattle.answer.specs.Answer.{size, first_of, result_of}
use Rattle.octets.specs.declared.Order.TheVariants.{HighestFirst}
use Rattle.octets.specs.Octets.{words_of, longest_text}
use Rattle.octets.specs.Words.{◌⊞◌, rotr, complement}
use Rattle.blocks.specs.Blocks.{schedule, next_word, rounds, hashed}
use Rattle.sha256.specs.declared.State.{State}

-- 4.1.2: the functions
abbrev pub ch : ℕ → ℕ → ℕ → ℕ
ch x y z = bit_xor (bit_and x y) (bit_and (complement x) z)

abbrev pub maj : ℕ → ℕ → ℕ → ℕ
maj x y z = bit_xor (bit_xor (bit_and x y) (bit_and x z)) (bit_and y z)

abbrev pub big_sigma : ℕ → ℕ → ℕ → ℕ → ℕ
big_sigma i j n x = bit_xor (bit_xor (rotr i x) (rotr j x)) (rotr n x)

abbrev pub small_sigma : ℕ → ℕ → ℕ → ℕ → ℕ
small_sigma i j n x = bit_xor (bit_xor (rotr i x) (rotr j x)) (x / 2 ^ n)

abbrev pub Σ₀ : ℕ → ℕ
Σ₀ x = big_sigma 2 13 22 x

abbrev pub Σ₁ : ℕ → ℕ
Σ₁ x = big_sigma 6 11 25 x

abbrev pub σ₀ : ℕ → ℕ
σ₀ x = small_sigma 7 18 3 x

abbrev pub σ₁ : ℕ → ℕ
σ₁ x = small_sigma 17 19 10 x

-- 4.2.2: the constants
unfoldable pub k : List ℕ
k =
    0x428a2f98 ∷ 0x71374491 ∷ 0xb5c0fbcf ∷ 0xe9b5dba5 ∷ 0x3956c25b ∷ 0x59f111f1 ∷ 0x923f82a4 ∷ 0xab1c5ed5 ∷
    0xd807aa98 ∷ 0x12835b01 ∷ 0x243185be ∷ 0x550c7dc3 ∷ 0x72be5d74 ∷ 0x80deb1fe ∷ 0x9bdc06a7 ∷ 0xc19bf174 ∷
    0xe49b69c1 ∷ 0xefbe4786 ∷ 0x0fc19dc6 ∷ 0x240ca1cc ∷ 0x2de92c6f ∷ 0x4a7484aa ∷ 0x5cb0a9dc ∷ 0x76f988da ∷
    0x983e5152 ∷ 0xa831c66d ∷ 0xb00327c8 ∷ 0xbf597fc7 ∷ 0xc6e00bf3 ∷ 0xd5a79147 ∷ 0x06ca6351 ∷ 0x14292967 ∷
    0x27b70a85 ∷ 0x2e1b2138 ∷ 0x4d2c6dfc ∷ 0x53380d13 ∷ 0x650a7354 ∷ 0x766a0abb ∷ 0x81c2c92e ∷ 0x92722c85 ∷
    0xa2bfe8a1 ∷ 0xa81a664b ∷ 0xc24b8b70 ∷ 0xc76c51a3 ∷ 0xd192e819 ∷ 0xd6990624 ∷ 0xf40e3585 ∷ 0x106aa070 ∷
    0x19a4c116 ∷ 0x1e376c08 ∷ 0x2748774c ∷ 0x34b0bcb5 ∷ 0x391c0cb3 ∷ 0x4ed8aa4a ∷ 0x5b9cca4f ∷ 0x682e6ff3 ∷
    0x748f82ee ∷ 0x78a5636f ∷ 0x84c87814 ∷ 0x8cc70208 ∷ 0x90befffa ∷ 0xa4506ceb ∷ 0xbef9a3f7 ∷ 0xc67178f2 ∷ []

-- 5.3.3: the initial hash value
abbrev pub initial : State
initial = record {
  a = 0x6a09e667;
  b = 0xbb67ae85;
  c = 0x3c6ef372;
  d = 0xa54ff53a;
  e = 0x510e527f;
  f = 0x9b05688c;
  g = 0x1f83d9ab;
  h = 0x5be0cd19;
}

-- 6.2.2, step 1: word t of the message schedule, from 16 on, from the words before it
abbrev pub late_word : List ℕ → ℕ → ℕ
late_word w t = σ₁ (get_or w (t - 2) 0) ⊞ get_or w (t - 7) 0 ⊞ σ₀ (get_or w (t - 15) 0) ⊞ get_or w (t - 16) 0

-- step 3: round t, on the working variables
abbrev pub t₁ : List ℕ → ℕ → State → ℕ
t₁ w t s = s.h ⊞ Σ₁ s.e ⊞ ch s.e s.f s.g ⊞ get_or k t 0 ⊞ get_or w t 0

abbrev pub t₂ : State → ℕ
t₂ s = Σ₀ s.a ⊞ maj s.a s.b s.c

unfoldable pub round : List ℕ → ℕ → State → State
round w t s = record {
  a = t₁ w t s ⊞ t₂ s;
  b = s.a;
  c = s.b;
  d = s.c;
  e = s.d ⊞ t₁ w t s;
  f = s.e;
  g = s.f;
  h = s.g;
}

-- step 4: the working variables added to the hash value
abbrev pub added : State → State → State
added h s = record {
  a = s.a ⊞ h.a;
  b = s.b ⊞ h.b;
  c = s.c ⊞ h.c;
  d = s.d ⊞ h.d;
  e = s.e ⊞ h.e;
  f = s.f ⊞ h.f;
  g = s.g ⊞ h.g;
  h = s.h ⊞ h.h;
}

-- steps 1 to 4: the hash value after one block more
unfoldable pub compress : State → List ℕ → State
compress h block = added h (rounds (round (schedule (next_word late_word block) 64)) 0 64 h)

-- the message digest
abbrev pub octets_in : State → List ℕ
octets_in s = words_of HighestFirst (s.a ∷ s.b ∷ s.c ∷ s.d ∷ s.e ∷ s.f ∷ s.g ∷ s.h ∷ [])

unfoldable pub sha256 : List ℕ → List ℕ
sha256 m = octets_in (hashed compress HighestFirst initial m)

-- the number that the call answers
abbrev pub sha256_code : List ℕ → ℕ
sha256_code m = first_of ((size, ltb longest_text (length m)) ∷ [])

-- the answer to a text of any length
unfoldable pub sha256_answer : List ℕ → Result (List ℕ) Refusal
sha256_answer m = result_of (sha256_code m) (sha256 m)
