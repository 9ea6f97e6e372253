-- MS-CHAPv2's hashes, responses and authenticator string (RFC 2759, sections 8.1 to 8.8), as 01, "MS-CHAPv2", condenses them.
use Rattle.std.specs.Prelude.{List, [], ◌∷◌, ◌++◌, ℕ, ◌/◌, ◌%◌, take, drop, replicate, get_or}
use Rattle.md4.specs.Md4.{md4}
use Rattle.sha_1.specs.Sha1.{sha1}
use Rattle.des.specs.Des.{encrypted}
use Rattle.mschap.specs.Lengths.{challenge_hash_length}
use Rattle.mschap.specs.Name.{hashed_name}

-- 8.3, NtPasswordHash: "Use the MD4 algorithm to irreversibly hash Password into PasswordHash"
unfoldable pub password_hash : List ℕ → List ℕ
password_hash password = md4 password

-- 8.4, HashNtPasswordHash: "Use the MD4 algorithm to irreversibly hash PasswordHash into PasswordHashHash"
unfoldable pub hash_hash : List ℕ → List ℕ
hash_hash hash = md4 hash

-- 8.2, ChallengeHash: the first 8 octets of SHA-1 over PeerChallenge, AuthenticatorChallenge and UserName
unfoldable pub challenge_hash : (peer authenticator name : List ℕ) → List ℕ
challenge_hash peer authenticator name = take challenge_hash_length (sha1 (peer ++ authenticator ++ hashed_name name))

-- 8.5: "Set ZPasswordHash to PasswordHash zero-padded to 21 octets"
unfoldable pub z_password_hash : List ℕ → List ℕ
z_password_hash hash = hash ++ replicate 5 0

-- 8.5, ChallengeResponse: the challenge hash under the 1st, 2nd and 3rd 7 octets of ZPasswordHash
unfoldable pub challenge_response : (challenge hash : List ℕ) → List ℕ
challenge_response challenge hash =
    let z : List ℕ = z_password_hash hash in
    encrypted (take 7 z) challenge ++ encrypted (take 7 (drop 7 z)) challenge ++ encrypted (take 7 (drop 14 z)) challenge

-- 8.1, GenerateNTResponse
unfoldable pub nt_response : (authenticator peer name password : List ℕ) → List ℕ
nt_response authenticator peer name password = challenge_response (challenge_hash peer authenticator name) (password_hash password)

-- 8.7, Magic1: "Magic server to client signing constant"
unfoldable pub magic1 : List ℕ
magic1 =
    0x4D ∷ 0x61 ∷ 0x67 ∷ 0x69 ∷ 0x63 ∷ 0x20 ∷ 0x73 ∷ 0x65 ∷ 0x72 ∷ 0x76
    ∷ 0x65 ∷ 0x72 ∷ 0x20 ∷ 0x74 ∷ 0x6F ∷ 0x20 ∷ 0x63 ∷ 0x6C ∷ 0x69 ∷ 0x65
    ∷ 0x6E ∷ 0x74 ∷ 0x20 ∷ 0x73 ∷ 0x69 ∷ 0x67 ∷ 0x6E ∷ 0x69 ∷ 0x6E ∷ 0x67
    ∷ 0x20 ∷ 0x63 ∷ 0x6F ∷ 0x6E ∷ 0x73 ∷ 0x74 ∷ 0x61 ∷ 0x6E ∷ 0x74 ∷ []

-- 8.7, Magic2: "Pad to make it do more than one iteration"
unfoldable pub magic2 : List ℕ
magic2 =
    0x50 ∷ 0x61 ∷ 0x64 ∷ 0x20 ∷ 0x74 ∷ 0x6F ∷ 0x20 ∷ 0x6D ∷ 0x61 ∷ 0x6B
    ∷ 0x65 ∷ 0x20 ∷ 0x69 ∷ 0x74 ∷ 0x20 ∷ 0x64 ∷ 0x6F ∷ 0x20 ∷ 0x6D ∷ 0x6F
    ∷ 0x72 ∷ 0x65 ∷ 0x20 ∷ 0x74 ∷ 0x68 ∷ 0x61 ∷ 0x6E ∷ 0x20 ∷ 0x6F ∷ 0x6E
    ∷ 0x65 ∷ 0x20 ∷ 0x69 ∷ 0x74 ∷ 0x65 ∷ 0x72 ∷ 0x61 ∷ 0x74 ∷ 0x69 ∷ 0x6F
    ∷ 0x6E ∷ []

-- section 5: "The hexadecimal digits A-F (if present) MUST be uppercase": "0123456789ABCDEF"
unfoldable pub hex_digit : ℕ → ℕ
hex_digit n =
    get_or (0x30 ∷ 0x31 ∷ 0x32 ∷ 0x33 ∷ 0x34 ∷ 0x35 ∷ 0x36 ∷ 0x37 ∷ 0x38 ∷ 0x39 ∷ 0x41 ∷ 0x42 ∷ 0x43 ∷ 0x44 ∷ 0x45 ∷ 0x46 ∷ []) n 0

-- octets as hexadecimal digits, two for each
unfoldable pub hex_digits : List ℕ → List ℕ
hex_digits [] = []
hex_digits (x ∷ xs) = hex_digit (x / 16) ∷ hex_digit (x % 16) ∷ hex_digits xs

-- 8.7: "Encode the value of 'Digest' as "S=" followed by 40 ASCII hexadecimal digits"
unfoldable pub encoded : List ℕ → List ℕ
encoded digest = 0x53 ∷ 0x3D ∷ hex_digits digest

-- 8.7 from the hash of the password and the challenge hash on
unfoldable pub signature : (hash response challenge : List ℕ) → List ℕ
signature hash response challenge =
    let digest : List ℕ = sha1 (hash_hash hash ++ response ++ magic1) in
    encoded (sha1 (digest ++ challenge ++ magic2))

-- 8.7, GenerateAuthenticatorResponse
unfoldable pub authenticator_string : (password response peer authenticator name : List ℕ) → List ℕ
authenticator_string password response peer authenticator name =
    signature (password_hash password) response (challenge_hash peer authenticator name)
