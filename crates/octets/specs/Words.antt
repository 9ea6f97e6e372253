-- Words of 32 bits (RFC 1320, section 2; FIPS 180-4, sections 2.2.2 and 3.2).
use Rattle.std.specs.Prelude.{ℕ, ◌+◌, ◌-◌, ◌*◌, ◌/◌, ◌%◌, ◌^◌, bit_or}

infixl 6 ◌⊞◌
-- a sum that drops the carry out of the top
abbrev pub ◌⊞◌ : ℕ → ℕ → ℕ
x ⊞ y = (x + y) % 2 ^ 32

-- the complement, bit by bit
abbrev pub complement : ℕ → ℕ
complement x = 2 ^ 32 - 1 - x

-- x rotated left by n places; 32 places are no rotation
abbrev pub rotl : ℕ → ℕ → ℕ
rotl n x = bit_or (x * 2 ^ (n % 32) % 2 ^ 32) (x / 2 ^ (32 - n % 32))

-- x rotated right by n places
abbrev pub rotr : ℕ → ℕ → ℕ
rotr n x = bit_or (x / 2 ^ (n % 32)) (x * 2 ^ (32 - n % 32) % 2 ^ 32)
