-- What the calls answer (01, "Numbers a call may answer" and "Lengths").
use Rattle.std.specs.Prelude.{List, ℕ, take, Result}
use Rattle.answer.specs.declared.Refusal.{Refusal}
use Rattle.answer.specs.Answer.{one_code, two_code, result_of}
use Rattle.rc4.specs.declared.Rc4.{Rc4}
use Rattle.rc4.specs.Cipher.{key_schedule}
use Rattle.mppe_keys.specs.declared.Strength.{Strength}
use Rattle.mppe_keys.specs.declared.Role.{Role}
use Rattle.mppe_keys.specs.declared.Direction.{Direction}
use Rattle.mppe_keys.specs.Keys.{key_length, master_key, start_key, reduced, new_key, initial_key, key_change, changes, placed}

-- what is answered: the key in its 16 places where the number is 0, and otherwise the refusal
unfoldable pub key_answer : ℕ → List ℕ → Result (List ℕ) Refusal
key_answer code key = result_of code (placed key)

-- hashes have 16 octets, an NT-Response 24, a master key 16, start and session keys those of their strength
unfoldable pub master_key_answer : (hash_hash response : List ℕ) → Result (List ℕ) Refusal
master_key_answer hash_hash response = key_answer (two_code 16 hash_hash 24 response) (master_key hash_hash response)

unfoldable pub start_key_answer : Strength → Role → Direction → List ℕ → Result (List ℕ) Refusal
start_key_answer s role direction master = key_answer (one_code 16 master) (start_key s role direction master)

unfoldable pub new_key_answer : (s : Strength) (start session : List ℕ) → Result (List ℕ) Refusal
new_key_answer s start session = key_answer (two_code (key_length s) start (key_length s) session) (new_key s start session)

unfoldable pub initial_key_answer : Strength → List ℕ → Result (List ℕ) Refusal
initial_key_answer s start = key_answer (one_code (key_length s) start) (initial_key s start)

unfoldable pub reduce_answer : Strength → List ℕ → Result (List ℕ) Refusal
reduce_answer s key = key_answer (one_code (key_length s) key) (reduced s key)

unfoldable pub key_change_answer : (s : Strength) (start session : List ℕ) → Result (List ℕ) Refusal
key_change_answer s start session = key_answer (two_code (key_length s) start (key_length s) session) (key_change s start session)

unfoldable pub key_changes_answer : (s : Strength) (start session : List ℕ) (n : ℕ) → Result (List ℕ) Refusal
key_changes_answer s start session n = key_answer (two_code (key_length s) start (key_length s) session) (changes s start n session)

-- keys in 16 places, of which the first are read
unfoldable pub placed_changes : (s : Strength) (start session : List ℕ) (n : ℕ) → List ℕ
placed_changes s start session n = placed (changes s (take (key_length s) start) n (take (key_length s) session))

-- RC4 freshly keyed with such a session key
unfoldable pub placed_cipher : (s : Strength) (session : List ℕ) → Rc4
placed_cipher s session = key_schedule (take (key_length s) session)
