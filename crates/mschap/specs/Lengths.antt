-- How many octets inputs and results have (01, "Lengths").
use Rattle.std.specs.Prelude.{ℕ}

-- "Password: 0 to 512 octets, even"
abbrev pub longest_password : ℕ
longest_password = 512

-- "Name: 0 to 256"
abbrev pub longest_name : ℕ
longest_name = 256

-- "Challenge: 16"
abbrev pub challenge_length : ℕ
challenge_length = 16

-- "NT-Response: 24"
abbrev pub response_length : ℕ
response_length = 24

-- "hashes 16": a password's hash, and the hash of that
abbrev pub hash_length : ℕ
hash_length = 16

-- "Challenge hash: first 8 octets"
abbrev pub challenge_hash_length : ℕ
challenge_hash_length = 8

-- "authenticator string 42"
abbrev pub string_length : ℕ
string_length = 42
