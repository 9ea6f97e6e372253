-- What the contracts of private functions alone say: sixteen words of the message schedule, overwritten in turn.
use Rattle.std.specs.Prelude.{◌≡◌, List, ℕ, ◌+◌, ◌-◌, ◌%◌, ◌<◌, ◌≤◌, ltb, length, get_or}
use Rattle.std.specs.Int.Bits.{bit_xor}
use Rattle.answer.specs.Answer.{pick}
use Rattle.octets.specs.Words.{rotl}
use Rattle.blocks.specs.Blocks.{schedule, next_word, rounds}
use Rattle.sha_1.specs.declared.State.{State}
use Rattle.sha_1.specs.Sha1.{late_word, round}

-- the whole message schedule of a block (6.1.2, step 1)
unfoldable pub whole : List ℕ → List ℕ
whole block = schedule (next_word late_word block) 80

-- the ring before round t: word j of the whole schedule at place j mod 16, for the sixteen words before word t, and before round 16 for
-- those of the block
unfoldable pub Ring : (block : List ℕ) (t : ℕ) (ring : List ℕ) → Type 0
Ring block t ring = (length ring ≡ 16) × ((j : ℕ) → j < 16 + (t - 16) → t ≤ j + 16 → get_or ring (j % 16) 0 ≡ get_or (whole block) j 0)

-- the word that a ring has for round t: its own, and from round 16 on one made from four of it
abbrev pub made_word : List ℕ → ℕ → ℕ
made_word ring t = rotl 1 (bit_xor (bit_xor (bit_xor (get_or ring ((t - 3) % 16) 0) (get_or ring ((t - 8) % 16) 0)) (get_or ring ((t - 14) % 16) 0)) (get_or ring (t % 16) 0))

unfoldable pub ring_word : List ℕ → ℕ → ℕ
ring_word ring t = pick (ltb t 16) (get_or ring (t % 16) 0) (made_word ring t)

-- n rounds from round t on, from state s and a ring: whichever block's words the ring holds, they are the rounds on its whole schedule,
-- and leave a ring that holds its words
abbrev pub Rounds : (t n : ℕ) (s r : State) (ring left : List ℕ) → Type 0
Rounds t n s r ring left = (block : List ℕ) → Ring block t ring → (r ≡ rounds (round (whole block)) t n s) × Ring block (t + n) left
