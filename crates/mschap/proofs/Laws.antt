-- What follows from the definitions alone: the lengths of all results, what a call within its limits answers, and what a check says.
use Rattle.std.specs.Prelude.{◌≡◌, Ok, Err, refl, Bool, true, false, ◌||◌, List, [], ◌∷◌, ◌++◌, ℕ, ◌*◌, ◌%◌, ◌≤◌, eqb, ltb, length, take, drop, replicate}
use Rattle.std.proofs.Common.{sym, ap, ◌∙◌, true≢false, arith, length-append, length-take-le, le-ltb, eq-eqb}
use Rattle.std.proofs.Math.Bool.{or_assoc, or-true}
use Rattle.answer.specs.declared.Refusal.TheVariants.{Domain}
use Rattle.answer.specs.Answer.{done, size, domain, number_of, value_of, pick, wrong, first_of, on_done, result_of}
use Rattle.answer.specs.Laws.{right, never, listed, numbered, number_first, value_result, ok_only}
use Rattle.octets.specs.Laws.{equal_same, equal_true}
use Rattle.md4.specs.Md4.{md4}
use Rattle.md4.specs.Laws.{md4_length}
use Rattle.sha_1.specs.Sha1.{sha1}
use Rattle.sha_1.specs.Laws.{sha1_length}
use Rattle.des.specs.Laws.{encrypted_length}
use Rattle.mschap.specs.Lengths.{longest_password, longest_name, challenge_length, response_length, hash_length, challenge_hash_length, string_length}
use Rattle.mschap.specs.Name.{backslash, holds, following, name_rows, hashed_name}
use Rattle.mschap.specs.Mschap.{password_hash, hash_hash, challenge_hash, z_password_hash, challenge_response, nt_response, magic1, magic2, hex_digits, encoded, signature, authenticator_string}
use Rattle.mschap.specs.Answers.{password_rows, challenge_rows, response_rows, string_rows, password_hash_answer, hash_hash_answer, challenge_hash_answer, challenge_response_answer, nt_response_answer, authenticator_string_answer, check_response_answer, check_authenticator_answer}

-- the lengths of all results
pub password_hash_length : (password : List ℕ) → length (password_hash password) ≡ hash_length
unfolding password_hash
password_hash_length password = md4_length password

pub hash_hash_length : (hash : List ℕ) → length (hash_hash hash) ≡ hash_length
unfolding hash_hash
hash_hash_length hash = md4_length hash

pub challenge_hash_length_lem : (peer authenticator name : List ℕ) → length (challenge_hash peer authenticator name) ≡ challenge_hash_length
unfolding challenge_hash
challenge_hash_length_lem peer authenticator name =
    let text : List ℕ = peer ++ authenticator ++ hashed_name name in
    length-take-le 8 (sha1 text) (omega (arith, sha1_length text))

pub challenge_response_length : (challenge hash : List ℕ) → length (challenge_response challenge hash) ≡ response_length
unfolding challenge_response
challenge_response_length challenge hash =
    let z : List ℕ = z_password_hash hash in
    rw (length-append, length-append) (omega (
      arith,
      encrypted_length (take 7 z) challenge,
      encrypted_length (take 7 (drop 7 z)) challenge,
      encrypted_length (take 7 (drop 14 z)) challenge,
    ))

pub nt_response_length : (authenticator peer name password : List ℕ) → length (nt_response authenticator peer name password) ≡ response_length
unfolding nt_response
nt_response_length authenticator peer name password = challenge_response_length _ _

pub hex_digits_length : (octets : List ℕ) → length (hex_digits octets) ≡ 2 * length octets
unfolding hex_digits
hex_digits_length [] = refl
hex_digits_length (x ∷ xs) = rw (hex_digits_length xs) (omega arith)

encoded_length : (digest : List ℕ) → length digest ≡ 20 → length (encoded digest) ≡ 42
unfolding encoded
encoded_length digest h = rw (hex_digits_length digest, h)

pub authenticator_string_length : (password response peer authenticator name : List ℕ)
    → length (authenticator_string password response peer authenticator name) ≡ string_length
unfolding authenticator_string signature
authenticator_string_length password response peer authenticator name = encoded_length _ (sha1_length _)

-- an octet is among two texts, one behind the other, where it is among one of them
pub holds_append : (x : ℕ) (a b : List ℕ) → holds x (a ++ b) ≡ (holds x a || holds x b)
unfolding holds
holds_append x [] b = refl
holds_append x (y ∷ a) b = rw (holds_append x a b, or_assoc (eqb y x) (holds x a) (holds x b))

-- what follows the first of an octet
following_first : (x : ℕ) (a b : List ℕ) → holds x a ≡ false → following x (a ++ x ∷ b) ≡ b
unfolding holds following
following_first x [] b e = rw (eq-eqb x x refl)
following_first x (y ∷ a) b e = go (eqb y x) e (following_first x a b)
  where
    go : (t : Bool) → (t || holds x a) ≡ false → (holds x a ≡ false → following x (a ++ x ∷ b) ≡ b)
        → pick t (a ++ x ∷ b) (following x (a ++ x ∷ b)) ≡ b
    go true e rest = absurd (true≢false e)
    go false e rest = rest e

following_short : (x : ℕ) (l : List ℕ) → length (following x l) ≤ length l
unfolding following
following_short x [] = omega arith
following_short x (y ∷ l) = go (eqb y x) (following_short x l)
  where
    go : (t : Bool) → length (following x l) ≤ length l → length (pick t l (following x l)) ≤ length (y ∷ l)
    go true h = omega arith
    go false h = omega arith

-- a name without 0x5C is hashed whole ..
pub hashed_whole : (name : List ℕ) → holds backslash name ≡ false → hashed_name name ≡ name
unfolding hashed_name
hashed_whole name e = rw e

-- .. and of any other what follows its first 0x5C: nothing where that is its last octet; a second 0x5C is an octet like any other
pub hashed_user : (domain user : List ℕ) → holds backslash domain ≡ false → hashed_name (domain ++ backslash ∷ user) ≡ user
unfolding hashed_name holds
hashed_user domain user e =
    rw (holds_append backslash domain (backslash ∷ user), or-true (holds backslash domain)) (following_first backslash domain user e)

pub hashed_short : (name : List ℕ) → length (hashed_name name) ≤ length name
unfolding hashed_name
hashed_short name = go (holds backslash name)
  where
    go : (t : Bool) → length (pick t (following backslash name) name) ≤ length name
    go true = following_short backslash name
    go false = omega arith

-- rows that do not apply
pub password_fits : (password : List ℕ) (rows : List (ℕ × Bool)) → length password ≤ longest_password → length password % 2 ≡ 0
    → first_of (password_rows password ++ rows) ≡ first_of rows
password_fits password rows h e = rw (le-ltb longest_password (length password) h, eq-eqb (length password % 2) 0 e)

pub name_fits : (name : List ℕ) → length name ≤ longest_name → first_of (name_rows name) ≡ done
name_fits name h = rw (le-ltb longest_name (length name) h)

pub challenge_fits : (peer authenticator name : List ℕ) → length peer ≡ challenge_length → length authenticator ≡ challenge_length
    → first_of (name_rows name) ≡ done → first_of (challenge_rows peer authenticator name) ≡ done
challenge_fits peer authenticator name hp ha hn =
    rw (right challenge_length peer hp, right challenge_length authenticator ha) hn

pub response_fits : (authenticator peer name password : List ℕ) → length password ≤ longest_password → length password % 2 ≡ 0
    → length peer ≡ challenge_length → length authenticator ≡ challenge_length → first_of (name_rows name) ≡ done
    → first_of (response_rows authenticator peer name password) ≡ done
response_fits authenticator peer name password h e hp ha hn =
    password_fits password (challenge_rows peer authenticator name) h e ∙ challenge_fits peer authenticator name hp ha hn

-- a call within its limits answers its result
pub password_hash_done : (password : List ℕ) → length password ≤ longest_password → length password % 2 ≡ 0
    → password_hash_answer password ≡ Ok (password_hash password)
unfolding password_hash_answer
password_hash_done password h e = rw (password_fits password [] h e)

pub hash_hash_done : (hash : List ℕ) → length hash ≡ hash_length → hash_hash_answer hash ≡ Ok (hash_hash hash)
unfolding hash_hash_answer
hash_hash_done hash h = rw (right hash_length hash h)

pub challenge_hash_done : (peer authenticator name : List ℕ) → length peer ≡ challenge_length → length authenticator ≡ challenge_length
    → first_of (name_rows name) ≡ done → challenge_hash_answer peer authenticator name ≡ Ok (challenge_hash peer authenticator name)
unfolding challenge_hash_answer
challenge_hash_done peer authenticator name hp ha hn = rw (challenge_fits peer authenticator name hp ha hn)

pub challenge_response_done : (challenge hash : List ℕ) → length challenge ≡ challenge_hash_length → length hash ≡ hash_length
    → challenge_response_answer challenge hash ≡ Ok (challenge_response challenge hash)
unfolding challenge_response_answer
challenge_response_done challenge hash hc hh =
    rw (right challenge_hash_length challenge hc, right hash_length hash hh)

pub nt_response_done : (authenticator peer name password : List ℕ) → first_of (response_rows authenticator peer name password) ≡ done
    → nt_response_answer authenticator peer name password ≡ Ok (nt_response authenticator peer name password)
unfolding nt_response_answer
nt_response_done authenticator peer name password h = rw h

pub authenticator_string_done : (password response peer authenticator name : List ℕ) → length response ≡ response_length
    → first_of (response_rows authenticator peer name password) ≡ done
    → authenticator_string_answer password response peer authenticator name ≡ Ok (authenticator_string password response peer authenticator name)
unfolding authenticator_string_answer
authenticator_string_done password response peer authenticator name hr h =
    rw (right response_length response hr, h)

-- the octets of a hash, and of the hash of that: where the call is refused, zeros
pub password_hash_octets : (password : List ℕ)
    → value_of (replicate hash_length 0) (password_hash_answer password)
    ≡ on_done (first_of (password_rows password)) (password_hash password) (replicate hash_length 0)
unfolding password_hash_answer
password_hash_octets password = value_result (first_of (password_rows password)) (password_hash password) (replicate hash_length 0)

pub hash_hash_octets : (hash : List ℕ)
    → value_of (replicate hash_length 0) (hash_hash_answer hash)
    ≡ on_done (first_of ((size, wrong hash_length hash) ∷ [])) (hash_hash hash) (replicate hash_length 0)
unfolding hash_hash_answer
hash_hash_octets hash = value_result (first_of ((size, wrong hash_length hash) ∷ [])) (hash_hash hash) (replicate hash_length 0)

-- an NT-Response is the challenge hash under the password's hash
pub response_made : {hash challenge o : List ℕ} (authenticator peer name password : List ℕ) → hash ≡ password_hash password
    → challenge ≡ challenge_hash peer authenticator name → o ≡ challenge_response challenge hash
    → o ≡ nt_response authenticator peer name password
unfolding nt_response
response_made authenticator peer name password eh ec eo = rw (eo, eh, ec)

-- the string of a password's hash: what is signed is the hash of that
pub signed : {hh digest last r : List ℕ} (hash response challenge m₁ m₂ : List ℕ) → hh ≡ md4 hash → digest ≡ sha1 (hh ++ response ++ m₁)
    → last ≡ sha1 (digest ++ challenge ++ m₂) → r ≡ encoded last → m₁ ≡ magic1 → m₂ ≡ magic2 → r ≡ signature hash response challenge
unfolding signature hash_hash
signed hash response challenge m₁ m₂ eh ed el er e₁ e₂ = rw (er, el, ed, eh, e₁, e₂)

-- the check says yes to the NT-Response that the same password gives ..
pub check_response_yes : (authenticator peer name password : List ℕ) → first_of (response_rows authenticator peer name password) ≡ done
    → check_response_answer authenticator peer name password (nt_response authenticator peer name password) ≡ Ok true
unfolding check_response_answer
check_response_yes authenticator peer name password h =
    let own : List ℕ = nt_response authenticator peer name password in
    rw (
      right response_length own
          (nt_response_length authenticator peer name password),
      h,
      equal_same own,
    )

-- .. and to no other
pub check_response_only : (authenticator peer name password received : List ℕ)
    → check_response_answer authenticator peer name password received ≡ Ok true → received ≡ nt_response authenticator peer name password
unfolding check_response_answer
check_response_only authenticator peer name password received h =
    sym (equal_true (nt_response authenticator peer name password) received (ok_only _ _ h).1)

-- so does the check of a string
pub check_authenticator_yes : (password response peer authenticator name : List ℕ)
    → first_of (string_rows password response peer authenticator name) ≡ done
    → check_authenticator_answer password response peer authenticator name (authenticator_string password response peer authenticator name)
    ≡ Ok true
unfolding check_authenticator_answer
check_authenticator_yes password response peer authenticator name h =
    let own : List ℕ = authenticator_string password response peer authenticator name in
    rw (
      right string_length own
          (authenticator_string_length password response peer authenticator name),
      h,
      equal_same own,
    )

pub check_authenticator_only : (password response peer authenticator name received : List ℕ)
    → check_authenticator_answer password response peer authenticator name received ≡ Ok true
    → received ≡ authenticator_string password response peer authenticator name
unfolding check_authenticator_answer
check_authenticator_only password response peer authenticator name received h =
    sym (equal_true (authenticator_string password response peer authenticator name) received (ok_only _ _ h).1)

-- two names for which each of the five calls that hash a name answers the same, whatever else it is given
abbrev pub SameAnswers : List ℕ → List ℕ → Type 0
SameAnswers a b =
    ((peer authenticator : List ℕ) → challenge_hash_answer peer authenticator a ≡ challenge_hash_answer peer authenticator b)
    × ((authenticator peer password : List ℕ) → nt_response_answer authenticator peer a password ≡ nt_response_answer authenticator peer b password)
    × ((password response peer authenticator : List ℕ)
    → authenticator_string_answer password response peer authenticator a ≡ authenticator_string_answer password response peer authenticator b)
    × ((authenticator peer password received : List ℕ)
    → check_response_answer authenticator peer a password received ≡ check_response_answer authenticator peer b password received)
    × ((password response peer authenticator received : List ℕ)
    → check_authenticator_answer password response peer authenticator a received ≡ check_authenticator_answer password response peer authenticator b received)

same_answers : (a b : List ℕ) → length a ≤ longest_name → length b ≤ longest_name → hashed_name a ≡ hashed_name b → SameAnswers a b
unfolding challenge_hash_answer nt_response_answer authenticator_string_answer check_response_answer check_authenticator_answer challenge_hash nt_response authenticator_string
same_answers a b ha hb e =
    let rows : (ltb longest_name (length a)) ≡ (ltb longest_name (length b)) = le-ltb longest_name (length a) ha ∙ sym (le-ltb longest_name (length b) hb) in
    (λ peer authenticator. rw (rows, e), λ authenticator peer password. rw (rows, e), λ password response peer authenticator. rw (rows, e), λ authenticator peer password received. rw (rows, e), λ password response peer authenticator received. rw (rows, e))

-- "NORTH\pump4" is "pump4": a domain, one 0x5C and a user name, together within the limit, are answered as that user name alone
pub domain_ignored : (domain user : List ℕ) → holds backslash domain ≡ false → holds backslash user ≡ false
    → length (domain ++ backslash ∷ user) ≤ longest_name → SameAnswers (domain ++ backslash ∷ user) user
domain_ignored domain user ed eu h =
    let all = length-append domain (backslash ∷ user) in
    same_answers (domain ++ backslash ∷ user) user h (omega (arith, all)) (hashed_user domain user ed ∙ sym (hashed_whole user eu))

-- 9 is given by none of them
not_given : {A : Type 0} (rows : List (ℕ × Bool)) (x : A) → listed rows ≡ true → numbered domain rows ≡ false
    → result_of (first_of rows) x ≡ Err Domain → ⊥
not_given rows x all none e = never domain rows refl none (sym (number_first rows x all) ∙ ap number_of e)

pub domain_never : (password response peer authenticator name received : List ℕ)
    → (challenge_hash_answer peer authenticator name ≡ Err Domain → ⊥)
    × (nt_response_answer authenticator peer name password ≡ Err Domain → ⊥)
    × (authenticator_string_answer password response peer authenticator name ≡ Err Domain → ⊥)
    × (check_response_answer authenticator peer name password received ≡ Err Domain → ⊥)
    × (check_authenticator_answer password response peer authenticator name received ≡ Err Domain → ⊥)
unfolding challenge_hash_answer nt_response_answer authenticator_string_answer check_response_answer check_authenticator_answer
domain_never password response peer authenticator name received = (
  not_given (challenge_rows peer authenticator name) _ refl refl,
  not_given (response_rows authenticator peer name password) _ refl refl,
  not_given (string_rows password response peer authenticator name) _ refl refl,
  not_given ((size, wrong response_length received) ∷ response_rows authenticator peer name password) _ refl refl,
  not_given ((size, wrong string_length received) ∷ string_rows password response peer authenticator name) _ refl refl,
)
