-- A message padded, cut into blocks of 64 octets and run over a compression function: what MD4 (RFC 1320, 3.1 to 3.4),
-- SHA-1 and SHA-256 (FIPS 180-4, 5.1.1, 5.2.1, 6.1.2 and 6.2.2) share.
use Rattle.std.specs.Prelude.{List, [], ◌∷◌, ◌++◌, ℕ, zero, suc, ◌+◌, ◌*◌, ◌-◌, ◌/◌, ◌%◌, ltb, length, take, drop, replicate}
use Rattle.answer.specs.Answer.{pick}
use Rattle.octets.specs.declared.Order.{Order}
use Rattle.octets.specs.declared.Order.TheVariants.{HighestFirst, LowestFirst}
use Rattle.octets.specs.Octets.{octets_of, word_be, word_le}

-- block n of a message, counted from 0
abbrev pub block : List ℕ → ℕ → List ℕ
block m n = take 64 (drop (64 * n) m)

-- the padding behind n octets: the bit 1, the fewest zeros that leave 8 octets of a block, and in these a number of bits
abbrev pub padded : Order → ℕ → ℕ → List ℕ
padded order n bits = 0x80 ∷ replicate ((64 + 55 - n % 64) % 64) 0 ++ octets_of order 8 bits

-- the padding of a message of n octets, which ends with its length in bits
abbrev pub padding : Order → ℕ → List ℕ
padding order n = padded order n (8 * n)

-- the first t words of a message schedule, each made from those before it and its number
unfoldable pub schedule : (List ℕ → ℕ → ℕ) → ℕ → List ℕ
schedule next zero = []
schedule next (suc t) = schedule next t ++ next (schedule next t) t ∷ []

-- the word of 32 bits whose octets are those at i to i + 3 of a block, in the order named
abbrev pub word_in : Order → List ℕ → ℕ → ℕ
word_in HighestFirst block i = word_be block i
word_in LowestFirst block i = word_le block i

-- the first n words of a block
abbrev pub words : Order → List ℕ → ℕ → List ℕ
words order block n = schedule (λ w t. word_in order block (4 * t)) n

-- word t of SHA's schedules, from the words before it: the first 16 are the block's, the others what `late` says
unfoldable pub next_word : (late : List ℕ → ℕ → ℕ) (block w : List ℕ) (t : ℕ) → ℕ
next_word late block w t = pick (ltb t 16) (word_be block (4 * t)) (late w t)

-- n rounds, from round t on
unfoldable pub rounds : {S : Type 0} → (ℕ → S → S) → ℕ → ℕ → S → S
rounds round t zero s = s
rounds round t (suc n) s = round (t + n) (rounds round t n s)

module _ {S : Type 0} (compress : S → List ℕ → S) where
  -- the hash value after the first n blocks of a message, from s
  unfoldable pub after : S → List ℕ → ℕ → S
  after s m zero = s
  after s m (suc n) = compress (after s m n) (block m n)

  -- the hash value after all whole blocks of a message
  abbrev pub absorbed : S → List ℕ → S
  absorbed s m = after s m (length m / 64)

  -- the hash value of a message, from the initial one
  unfoldable pub hashed : Order → S → List ℕ → S
  hashed order s m = absorbed s (m ++ padding order (length m))

-- the octets behind a message's last whole block, padded
abbrev pub ending : Order → List ℕ → ℕ → List ℕ
ending order m bits = drop (64 * (length m / 64)) m ++ padded order (length m) bits

-- the same as a buffer of two blocks, with zeros behind
unfoldable pub tail_of : Order → List ℕ → ℕ → List ℕ
tail_of order m bits = ending order m bits ++ replicate (128 - length (ending order m bits)) 0
