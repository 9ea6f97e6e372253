-- What the calls answer (01, "Numbers a call may answer" and "Lengths"). Every row is one of 3: refusal 9 is no longer given (02, M-100).
use Rattle.std.specs.Prelude.{Bool, not, List, [], ◌∷◌, ◌++◌, ℕ, ◌%◌, eqb, ltb, length, Result}
use Rattle.answer.specs.declared.Refusal.{Refusal}
use Rattle.answer.specs.Answer.{size, first_of, result_of, wrong}
use Rattle.octets.specs.Octets.{equal}
use Rattle.mschap.specs.Lengths.{longest_password, challenge_length, response_length, hash_length, challenge_hash_length, string_length}
use Rattle.mschap.specs.Name.{name_rows}
use Rattle.mschap.specs.Mschap.{password_hash, hash_hash, challenge_hash, challenge_response, nt_response, authenticator_string}

-- "Password: 0 to 512 octets, even"
abbrev pub password_rows : List ℕ → List (ℕ × Bool)
password_rows password = (size, ltb longest_password (length password)) ∷ (size, not (eqb (length password % 2) 0)) ∷ []

-- both challenges, and the name that is hashed with them
abbrev pub challenge_rows : (peer authenticator name : List ℕ) → List (ℕ × Bool)
challenge_rows peer authenticator name = (size, wrong challenge_length peer) ∷ (size, wrong challenge_length authenticator) ∷ name_rows name

-- what is asked of all that an NT-Response is made from
abbrev pub response_rows : (authenticator peer name password : List ℕ) → List (ℕ × Bool)
response_rows authenticator peer name password = password_rows password ++ challenge_rows peer authenticator name

-- and of an NT-Response, for a string
abbrev pub string_rows : (password response peer authenticator name : List ℕ) → List (ℕ × Bool)
string_rows password response peer authenticator name = (size, wrong response_length response) ∷ response_rows authenticator peer name password

-- the answers of the calls: the result where no row applies, and otherwise the first refusal
unfoldable pub password_hash_answer : List ℕ → Result (List ℕ) Refusal
password_hash_answer password = result_of (first_of (password_rows password)) (password_hash password)

unfoldable pub hash_hash_answer : List ℕ → Result (List ℕ) Refusal
hash_hash_answer hash = result_of (first_of ((size, wrong hash_length hash) ∷ [])) (hash_hash hash)

unfoldable pub challenge_hash_answer : (peer authenticator name : List ℕ) → Result (List ℕ) Refusal
challenge_hash_answer peer authenticator name =
    result_of (first_of (challenge_rows peer authenticator name)) (challenge_hash peer authenticator name)

unfoldable pub challenge_response_answer : (challenge hash : List ℕ) → Result (List ℕ) Refusal
challenge_response_answer challenge hash =
    result_of (first_of ((size, wrong challenge_hash_length challenge) ∷ (size, wrong hash_length hash) ∷ []))
    (challenge_response challenge hash)

unfoldable pub nt_response_answer : (authenticator peer name password : List ℕ) → Result (List ℕ) Refusal
nt_response_answer authenticator peer name password =
    result_of (first_of (response_rows authenticator peer name password)) (nt_response authenticator peer name password)

unfoldable pub authenticator_string_answer : (password response peer authenticator name : List ℕ) → Result (List ℕ) Refusal
authenticator_string_answer password response peer authenticator name =
    result_of (first_of (string_rows password response peer authenticator name))
    (authenticator_string password response peer authenticator name)

-- "say yes exactly if every octet equals the one worked out here"; "A comparison that finds a difference says no; that is a 0"
unfoldable pub check_response_answer : (authenticator peer name password received : List ℕ) → Result Bool Refusal
check_response_answer authenticator peer name password received =
    result_of (first_of ((size, wrong response_length received) ∷ response_rows authenticator peer name password))
    (equal (nt_response authenticator peer name password) received)

unfoldable pub check_authenticator_answer : (password response peer authenticator name received : List ℕ) → Result Bool Refusal
check_authenticator_answer password response peer authenticator name received =
    result_of (first_of ((size, wrong string_length received) ∷ string_rows password response peer authenticator name))
    (equal (authenticator_string password response peer authenticator name) received)
