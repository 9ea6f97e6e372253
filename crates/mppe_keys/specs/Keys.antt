-- MPPE's keys (RFC 3079, section 3; RFC 3078, section 7.3), as 01, "Keys", condenses them.
use Rattle.std.specs.Prelude.{Bool, true, false, List, [], ◌∷◌, ◌++◌, ℕ, zero, suc, ◌-◌, eqb, length, take, drop, replicate}
use Rattle.answer.specs.Answer.{pick}
use Rattle.sha_1.specs.Sha1.{sha1}
use Rattle.rc4.specs.Cipher.{key_schedule, run}
use Rattle.mppe_keys.specs.declared.Strength.{Strength}
use Rattle.mppe_keys.specs.declared.Strength.TheVariants.{Bits40, Bits56, Bits128}
use Rattle.mppe_keys.specs.declared.Mode.{Mode}
use Rattle.mppe_keys.specs.declared.Mode.TheVariants.{Stateless, Stateful}
use Rattle.mppe_keys.specs.declared.Role.{Role}
use Rattle.mppe_keys.specs.declared.Role.TheVariants.{Client, Server}
use Rattle.mppe_keys.specs.declared.Direction.{Direction}
use Rattle.mppe_keys.specs.declared.Direction.TheVariants.{Send, Receive}

-- the paper's number of a strength: its bits
abbrev pub bits_of : Strength → ℕ
bits_of Bits40 = 40
bits_of Bits56 = 56
bits_of Bits128 = 128

-- how many octets a key of a strength has: "n = 16 at 128 bits, else 8"
abbrev pub key_length : Strength → ℕ
key_length Bits40 = 8
key_length Bits56 = 8
key_length Bits128 = 16

-- the first where a link is stateless, the second where it is stateful
abbrev pub by_mode : {A : Type 0} → Mode → A → A → A
by_mode Stateless a b = a
by_mode Stateful a b = b

-- the mode that is stateful, or the other
abbrev pub mode_if : (stateful : Bool) → Mode
mode_if stateful = pick stateful Stateful Stateless

-- Magic1: "This is the MPPE Master Key"
unfoldable pub magic1 : List ℕ
magic1 =
    0x54 ∷ 0x68 ∷ 0x69 ∷ 0x73 ∷ 0x20 ∷ 0x69 ∷ 0x73 ∷ 0x20 ∷ 0x74 ∷ 0x68 ∷ 0x65 ∷ 0x20 ∷ 0x4d ∷ 0x50
    ∷ 0x50 ∷ 0x45 ∷ 0x20 ∷ 0x4d ∷ 0x61 ∷ 0x73 ∷ 0x74 ∷ 0x65 ∷ 0x72 ∷ 0x20 ∷ 0x4b ∷ 0x65 ∷ 0x79 ∷ []

-- Magic2: "On the client side, this is the send key; on the server side, it is the receive key."
unfoldable pub magic2 : List ℕ
magic2 =
    0x4f ∷ 0x6e ∷ 0x20 ∷ 0x74 ∷ 0x68 ∷ 0x65 ∷ 0x20 ∷ 0x63 ∷ 0x6c ∷ 0x69 ∷ 0x65 ∷ 0x6e ∷ 0x74 ∷ 0x20
    ∷ 0x73 ∷ 0x69 ∷ 0x64 ∷ 0x65 ∷ 0x2c ∷ 0x20 ∷ 0x74 ∷ 0x68 ∷ 0x69 ∷ 0x73 ∷ 0x20 ∷ 0x69 ∷ 0x73 ∷ 0x20
    ∷ 0x74 ∷ 0x68 ∷ 0x65 ∷ 0x20 ∷ 0x73 ∷ 0x65 ∷ 0x6e ∷ 0x64 ∷ 0x20 ∷ 0x6b ∷ 0x65 ∷ 0x79 ∷ 0x3b ∷ 0x20
    ∷ 0x6f ∷ 0x6e ∷ 0x20 ∷ 0x74 ∷ 0x68 ∷ 0x65 ∷ 0x20 ∷ 0x73 ∷ 0x65 ∷ 0x72 ∷ 0x76 ∷ 0x65 ∷ 0x72 ∷ 0x20
    ∷ 0x73 ∷ 0x69 ∷ 0x64 ∷ 0x65 ∷ 0x2c ∷ 0x20 ∷ 0x69 ∷ 0x74 ∷ 0x20 ∷ 0x69 ∷ 0x73 ∷ 0x20 ∷ 0x74 ∷ 0x68
    ∷ 0x65 ∷ 0x20 ∷ 0x72 ∷ 0x65 ∷ 0x63 ∷ 0x65 ∷ 0x69 ∷ 0x76 ∷ 0x65 ∷ 0x20 ∷ 0x6b ∷ 0x65 ∷ 0x79 ∷ 0x2e ∷ []

-- Magic3: "On the client side, this is the receive key; on the server side, it is the send key."
unfoldable pub magic3 : List ℕ
magic3 =
    0x4f ∷ 0x6e ∷ 0x20 ∷ 0x74 ∷ 0x68 ∷ 0x65 ∷ 0x20 ∷ 0x63 ∷ 0x6c ∷ 0x69 ∷ 0x65 ∷ 0x6e ∷ 0x74 ∷ 0x20
    ∷ 0x73 ∷ 0x69 ∷ 0x64 ∷ 0x65 ∷ 0x2c ∷ 0x20 ∷ 0x74 ∷ 0x68 ∷ 0x69 ∷ 0x73 ∷ 0x20 ∷ 0x69 ∷ 0x73 ∷ 0x20
    ∷ 0x74 ∷ 0x68 ∷ 0x65 ∷ 0x20 ∷ 0x72 ∷ 0x65 ∷ 0x63 ∷ 0x65 ∷ 0x69 ∷ 0x76 ∷ 0x65 ∷ 0x20 ∷ 0x6b ∷ 0x65
    ∷ 0x79 ∷ 0x3b ∷ 0x20 ∷ 0x6f ∷ 0x6e ∷ 0x20 ∷ 0x74 ∷ 0x68 ∷ 0x65 ∷ 0x20 ∷ 0x73 ∷ 0x65 ∷ 0x72 ∷ 0x76
    ∷ 0x65 ∷ 0x72 ∷ 0x20 ∷ 0x73 ∷ 0x69 ∷ 0x64 ∷ 0x65 ∷ 0x2c ∷ 0x20 ∷ 0x69 ∷ 0x74 ∷ 0x20 ∷ 0x69 ∷ 0x73
    ∷ 0x20 ∷ 0x74 ∷ 0x68 ∷ 0x65 ∷ 0x20 ∷ 0x73 ∷ 0x65 ∷ 0x6e ∷ 0x64 ∷ 0x20 ∷ 0x6b ∷ 0x65 ∷ 0x79 ∷ 0x2e ∷ []

-- "Master key: first 16 of SHA-1(hash-hash, NT-Response, Magic1)"
unfoldable pub master_key : (hash_hash response : List ℕ) → List ℕ
master_key hash_hash response = take 16 (sha1 (hash_hash ++ response ++ magic1))

-- what the client sends and the server receives
abbrev pub from_client : Role → Direction → Bool
from_client Client Send = true
from_client Client Receive = false
from_client Server Send = false
from_client Server Receive = true

-- "The phrase is Magic2 for what the client sends and the server receives, Magic3 for the other way."
abbrev pub phrase : Role → Direction → List ℕ
phrase role direction = pick (from_client role direction) magic2 magic3

-- what is hashed for a key: two parts, with 40 zeros between them and 40 octets 0xF2 behind
unfoldable pub key_text : (first second : List ℕ) → List ℕ
key_text first second = first ++ replicate 40 0 ++ second ++ replicate 40 0xF2

-- "Start key: first n of SHA-1(master key, 40 zeros, phrase, 40 octets 0xF2)"
unfoldable pub start_key : Strength → Role → Direction → List ℕ → List ℕ
start_key s role direction master = take (key_length s) (sha1 (key_text master (phrase role direction)))

-- "New-key(start, session): first n of SHA-1(start, 40 zeros, session, 40 octets 0xF2)"
unfoldable pub new_key : (s : Strength) (start session : List ℕ) → List ℕ
new_key s start session = take (key_length s) (sha1 (key_text start session))

-- "at 40 bits the first octets become D1 26 9E, at 56 bits D1, at 128 nothing"
unfoldable pub head_of : Strength → List ℕ
head_of Bits40 = 0xD1 ∷ 0x26 ∷ 0x9E ∷ []
head_of Bits56 = 0xD1 ∷ []
head_of Bits128 = []

-- a key with these in place of its first octets
unfoldable pub reduced : Strength → List ℕ → List ℕ
reduced s key = head_of s ++ drop (length (head_of s)) key

-- whether a list begins with another, as a key with these
unfoldable pub begins : List ℕ → List ℕ → Bool
begins [] l = true
begins (h ∷ hs) [] = false
begins (h ∷ hs) (x ∷ xs) = pick (eqb x h) (begins hs xs) false

-- "Initial session key: reduce(new-key(start, start)), no RC4"
unfoldable pub initial_key : Strength → List ℕ → List ℕ
initial_key s start = reduced s (new_key s start start)

-- RC4 freshly keyed, applied to a text
abbrev pub rc4 : (key text : List ℕ) → List ℕ
rc4 key text = run (key_schedule key) text

-- "A key change: interim = new-key(start, session); the session key becomes reduce(RC4 keyed with interim, applied to interim)"
unfoldable pub key_change : (s : Strength) (start session : List ℕ) → List ℕ
key_change s start session = let interim : List ℕ = new_key s start session in reduced s (rc4 interim interim)

-- n key changes; "the start key never changes"
unfoldable pub changes : (s : Strength) (start : List ℕ) (zero : ℕ) (session : List ℕ) → List ℕ
changes s start zero session = session
changes s start (suc n) session = key_change s start (changes s start n session)

-- "16 places a key": a key, and zeros behind it
unfoldable pub placed : List ℕ → List ℕ
placed key = key ++ replicate (16 - length key) 0
