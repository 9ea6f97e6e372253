-- HMAC over SHA-256, as RFC 2104, section 2, defines it: B is 64.
use Rattle.std.specs.Prelude.{List, [], ◌∷◌, ◌++◌, map, ℕ, ◌-◌, ltb, length, replicate, Result}
use Rattle.std.specs.Int.Bits.{bit_xor}
use Rattle.answer.specs.declared.Refusal.{Refusal}
use Rattle.answer.specs.Answer.{size, pick, first_of, result_of}
use Rattle.octets.specs.Octets.{longest_text}
use Rattle.sha256.specs.Sha256.{sha256}

-- the key in B octets: hashed first where it is longer, then zeros at its end
abbrev pub used_key : List ℕ → List ℕ
used_key key = pick (ltb 64 (length key)) (sha256 key) key

unfoldable pub key_block : List ℕ → List ℕ
key_block key = used_key key ++ replicate (64 - length (used_key key)) 0

-- a block, each octet XORed with a pad
abbrev pub xored : ℕ → List ℕ → List ℕ
xored pad block = map (λ x. bit_xor x pad) block

abbrev pub ipad : ℕ
ipad = 0x36

abbrev pub opad : ℕ
opad = 0x5C

-- H(K XOR opad, H(K XOR ipad, text))
unfoldable pub hmac : (key text : List ℕ) → List ℕ
hmac key text = sha256 (xored opad (key_block key) ++ sha256 (xored ipad (key_block key) ++ text))

-- the number that the call answers
abbrev pub hmac_code : (key text : List ℕ) → ℕ
hmac_code key text = first_of ((size, ltb longest_text (length key)) ∷ (size, ltb longest_text (length text)) ∷ [])

-- the answer to a key and a text of any lengths
unfoldable pub hmac_answer : (key text : List ℕ) → Result (List ℕ) Refusal
hmac_answer key text = result_of (hmac_code key text) (hmac key text)
