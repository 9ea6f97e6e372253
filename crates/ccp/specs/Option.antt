-- The MPPE option of CCP (RFC 3078, section 2), as 01, "The option", condenses it.
use Rattle.std.specs.Prelude.{Bool, true, false, not, ◌&&◌, ◌||◌, List, ◌∷◌, ℕ, eqb}
use Rattle.std.specs.Int.Bits.{bit_and, bit_or}
use Rattle.answer.specs.Answer.{pick}
use Rattle.octets.specs.Octets.{big_endian}
use Rattle.mppe_keys.specs.declared.Strength.{Strength}
use Rattle.mppe_keys.specs.declared.Strength.TheVariants.{Bits40, Bits56, Bits128}
use Rattle.mppe_keys.specs.declared.Mode.{Mode}
use Rattle.mppe_keys.specs.declared.Mode.TheVariants.{Stateless, Stateful}
use Rattle.ccp.specs.declared.Strengths.{Strengths}
use Rattle.ccp.specs.declared.Choice.{Choice}

-- "Type 18, length 6"
abbrev pub option_type : ℕ
option_type = 18

abbrev pub option_length : ℕ
option_length = 6

-- bit H of the supported bits: stateless mode
abbrev pub bit_h : ℕ
bit_h = 0x01000000

-- bit M: 56 bits
abbrev pub bit_m : ℕ
bit_m = 0x80

-- bit S: 128 bits
abbrev pub bit_s : ℕ
bit_s = 0x40

-- bit L: 40 bits
abbrev pub bit_l : ℕ
bit_l = 0x20

-- whether a bit is set in the supported bits
abbrev pub is_set : ℕ → ℕ → Bool
is_set word bit = not (eqb (bit_and word bit) 0)

-- the mode that the supported bits name
unfoldable pub mode_of : ℕ → Mode
mode_of word = pick (is_set word bit_h) Stateless Stateful

-- the strengths that they offer; other bits count for nothing
unfoldable pub strengths_of : ℕ → Strengths
strengths_of word = record { bits40 = is_set word bit_l; bits56 = is_set word bit_m; bits128 = is_set word bit_s }

-- the bit of a mode
abbrev pub mode_bit : Mode → ℕ
mode_bit Stateless = bit_h
mode_bit Stateful = 0

-- the supported bits of a mode and strengths
unfoldable pub word_of : Mode → Strengths → ℕ
word_of mode s = bit_or (bit_or (bit_or (mode_bit mode) (pick s.bits56 bit_m 0)) (pick s.bits128 bit_s 0)) (pick s.bits40 bit_l 0)

-- the six octets of an option
unfoldable pub option_octets : Mode → Strengths → List ℕ
option_octets mode s = option_type ∷ option_length ∷ big_endian 4 (word_of mode s)

-- strengths that are both offered and allowed
abbrev pub common : Strengths → Strengths → Strengths
common offered allowed =
    record {
      bits40 = offered.bits40 && allowed.bits40;
      bits56 = offered.bits56 && allowed.bits56;
      bits128 = offered.bits128 && allowed.bits128;
    }

-- whether there is none
abbrev pub none_of : Strengths → Bool
none_of s = not (s.bits40 || (s.bits56 || s.bits128))

-- the strongest of strengths: 128, 56, 40
abbrev pub strongest : Strengths → Strength
strongest s = pick s.bits128 Bits128 (pick s.bits56 Bits56 Bits40)

-- one strength alone
abbrev pub only : Strength → Strengths
only Bits40 = record { bits40 = true; bits56 = false; bits128 = false }
only Bits56 = record { bits40 = false; bits56 = true; bits128 = false }
only Bits128 = record { bits40 = false; bits56 = false; bits128 = true }

-- the supported bits of a choice
abbrev pub choice_word : Choice → ℕ
choice_word c = word_of c.mode (only c.strength)
