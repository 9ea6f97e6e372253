-- The binding key of SSTP (MS-SSTP, section 3.2.5.2.4), as 01, "Binding key", condenses it.
use Rattle.std.specs.Prelude.{List, [], ◌∷◌, ◌++◌, ℕ, ◌-◌, ltb, length, take, replicate, Result}
use Rattle.answer.specs.declared.Refusal.{Refusal}
use Rattle.answer.specs.Answer.{size, first_of, two_code, result_of}
use Rattle.octets.specs.declared.Order.TheVariants.{LowestFirst}
use Rattle.octets.specs.Octets.{octets_of, longest_text}
use Rattle.sha256.specs.Hmac.{hmac}
use Rattle.mppe_keys.specs.declared.Role.{Role}
use Rattle.mppe_keys.specs.declared.Role.TheVariants.{Client, Server}

-- step 1, HLAK: "client's send start key then receive start key"; "the server puts receive first"
abbrev pub base_key : (Client : Role) (send receive : List ℕ) → List ℕ
base_key Client send receive = send ++ receive
base_key Server send receive = receive ++ send

-- "Key material of another length is cut to 32 or padded at the end with zeros; none at all gives 32 zeros."
unfoldable pub fitted : List ℕ → List ℕ
fitted material = take 32 material ++ replicate (32 - length material) 0

-- step 2, the seed: "SSTP inner method derived CMK"
unfoldable pub seed : List ℕ
seed =
    0x53 ∷ 0x53 ∷ 0x54 ∷ 0x50 ∷ 0x20 ∷ 0x69 ∷ 0x6e ∷ 0x6e ∷ 0x65 ∷ 0x72 ∷ 0x20 ∷ 0x6d ∷ 0x65 ∷ 0x74 ∷ 0x68
    ∷ 0x6f ∷ 0x64 ∷ 0x20 ∷ 0x64 ∷ 0x65 ∷ 0x72 ∷ 0x69 ∷ 0x76 ∷ 0x65 ∷ 0x64 ∷ 0x20 ∷ 0x43 ∷ 0x4d ∷ 0x4b ∷ []

-- step 3, LEN: 32 as two octets, the low one first
abbrev pub length_octets : List ℕ
length_octets = octets_of LowestFirst 2 32

-- step 3, T1, whose 32 octets are the whole key: HMAC-SHA256 (K, S | LEN | 0x01)
unfoldable pub binding_key : List ℕ → List ℕ
binding_key material = hmac (fitted material) (seed ++ length_octets ++ 0x01 ∷ [])

-- what is answered: the key where the number is 0, and otherwise the refusal
unfoldable pub key_answer : ℕ → List ℕ → Result (List ℕ) Refusal
key_answer code key = result_of code key

-- start keys have 16 octets
unfoldable pub base_key_answer : (role : Role) (send receive : List ℕ) → Result (List ℕ) Refusal
base_key_answer role send receive = key_answer (two_code 16 send 16 receive) (base_key role send receive)

-- key material has 0 to 65,535
unfoldable pub binding_key_answer : List ℕ → Result (List ℕ) Refusal
binding_key_answer material = key_answer (first_of ((size, ltb longest_text (length material)) ∷ [])) (binding_key material)
