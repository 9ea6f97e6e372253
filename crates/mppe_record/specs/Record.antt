-- A link record as octets.
use Rattle.std.specs.Prelude.{Bool, true, false, not, List, [], ◌∷◌, ◌++◌, ℕ, eqb, ltb, take, drop, get_or, Result}
use Rattle.answer.specs.declared.Refusal.{Refusal}
use Rattle.answer.specs.Answer.{not_record, pick, first_of, result_of, wrong}
use Rattle.octets.specs.Octets.{big_endian, pair_at}
use Rattle.rc4.specs.declared.Rc4.{Rc4}
use Rattle.rc4.specs.Cipher.{box, unkeyed}
use Rattle.mppe_keys.specs.declared.Strength.{Strength}
use Rattle.mppe_keys.specs.declared.Strength.TheVariants.{Bits40, Bits56, Bits128}
use Rattle.mppe_keys.specs.declared.Mode.{Mode}
use Rattle.mppe_keys.specs.declared.Mode.TheVariants.{Stateless}
use Rattle.mppe_keys.specs.Keys.{bits_of, by_mode, mode_if}
use Rattle.mppe.specs.declared.Link.{Link}
use Rattle.mppe.specs.Link.{no_link}

-- the strength of a number of bits; 40 bits for a number that is no strength
abbrev pub strength_of : ℕ → Strength
strength_of bits = pick (eqb bits 128) Bits128 (pick (eqb bits 56) Bits56 Bits40)

-- a number that is the bits of no strength
abbrev pub no_strength : ℕ → Bool
no_strength bits = not (eqb bits (bits_of (strength_of bits)))

-- a yes or no as a number
abbrev pub yes_number : Bool → ℕ
yes_number holds = pick holds 1 0

-- a number that is neither 0 nor 1
abbrev pub no_choice : ℕ → Bool
no_choice n = ltb 1 n

-- "Link record: strength, start key, session key, last count; 16 places a key"; "numbers highest octet first: .. strength in bits 1,
-- start key 16, session key 16, last count 2" (02, M-111): the first 35 octets
unfoldable pub front_octets : Link → List ℕ
front_octets l = bits_of l.strength ∷ l.start ++ l.session ++ big_endian 2 l.count

-- "The link record gains mode, box with both indices, and a waiting mark" (02, M-103): behind them whether the mode is stateful, the mark,
-- both indices, and the cells
unfoldable pub rest_octets : Link → List ℕ
rest_octets l = yes_number (by_mode l.mode false true) ∷ yes_number l.waiting ∷ l.state.i ∷ l.state.j ∷ l.state.cells

abbrev pub record_length : ℕ
record_length = 295

unfoldable pub record_octets : Link → List ℕ
record_octets l = front_octets l ++ rest_octets l

-- the record of which octets hold the first 35, with this mode, box and mark
abbrev pub front_in : List ℕ → Mode → (state : Rc4) (mark : Bool) → Link
front_in octets mode state mark =
    record {
      strength = strength_of (get_or octets 0 0);
      mode = mode;
      start = take 16 (drop 1 octets);
      session = take 16 (drop 17 octets);
      count = pair_at 33 octets;
      state = state;
      waiting = mark;
    }

-- the record in 295 octets
unfoldable pub record_in : List ℕ → Link
record_in octets =
    front_in octets (mode_if (eqb (get_or octets 35 0) 1)) (box (take 256 (drop 39 octets)) (get_or octets 37 0) (get_or octets 38 0))
    (eqb (get_or octets 36 0) 1)

-- octets that hold none: there are not 295 of them, the first is no strength, or the mode or the mark is neither 0 nor 1
abbrev pub record_rows : List ℕ → List (ℕ × Bool)
record_rows octets =
    (not_record, wrong record_length octets)
    ∷ (not_record, no_strength (get_or octets 0 0))
    ∷ (not_record, no_choice (get_or octets 35 0))
    ∷ (not_record, no_choice (get_or octets 36 0))
    ∷ []

-- what a refused answer has for a record, `value_of no_record (record_read octets)`: "40 bits, stateless, all else 0" (02, M-111)
abbrev pub no_record : Link
no_record = no_link Bits40 Stateless

unfoldable pub record_read : List ℕ → Result Link Refusal
record_read octets = result_of (first_of (record_rows octets)) (record_in octets)

-- the first 35 octets alone hold a stateless record, whose box and mark are no others: "in stateless mode 0 to 255 in order, indices 0, mark
-- off" (02, M-103); 7 where there are not 35 of them, or the first is no strength
abbrev pub front_length : ℕ
front_length = 35

unfoldable pub stateless_in : List ℕ → Link
stateless_in octets = front_in octets Stateless unkeyed false

abbrev pub stateless_rows : List ℕ → List (ℕ × Bool)
stateless_rows octets = (not_record, wrong front_length octets) ∷ (not_record, no_strength (get_or octets 0 0)) ∷ []

unfoldable pub stateless_read : List ℕ → Result Link Refusal
stateless_read octets = result_of (first_of (stateless_rows octets)) (stateless_in octets)
