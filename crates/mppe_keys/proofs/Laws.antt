-- What holds of the keys, once over the key length; only what `key_length` and `head_of` are goes by the strengths.
use Rattle.std.specs.Prelude.{◌≡◌, refl, List, ◌++◌, ℕ, zero, suc, ◌+◌, ◌≤◌, length, take, drop, replicate, Result, Ok, Err}
use Rattle.std.specs.Result.{result_unwrap_or}
use Rattle.std.proofs.Common.{ap, ◌∙◌, add-zero, add-suc, arith, length-append, length-drop, length-take-le, take_all}
use Rattle.std.proofs.lemmas.List.{length-replicate}
use Rattle.std.proofs.Math.Seq.{take-append_seam, drop-append_seam}
use Rattle.answer.specs.declared.Refusal.{Refusal}
use Rattle.answer.specs.Answer.{value_of}
use Rattle.octets.specs.Octets.{written}
use Rattle.octets.specs.Laws.{drop_zeros}
use Rattle.sha_1.specs.Sha1.{sha1}
use Rattle.sha_1.specs.Laws.{sha1_length}
use Rattle.rc4.specs.declared.Rc4.{Rc4}
use Rattle.rc4.specs.Cipher.{key_schedule}
use Rattle.rc4.specs.Answers.{keyed_answer}
use Rattle.rc4.proofs.Laws.{run_length, keyed_done}
use Rattle.mppe_keys.specs.declared.Strength.{Strength}
use Rattle.mppe_keys.specs.declared.Strength.TheVariants.{Bits40, Bits56, Bits128}
use Rattle.mppe_keys.specs.declared.Role.{Role}
use Rattle.mppe_keys.specs.declared.Direction.{Direction}
use Rattle.mppe_keys.specs.Keys.{key_length, magic1, master_key, phrase, key_text, start_key, new_key, head_of, reduced, initial_key, key_change, changes, placed}
use Rattle.mppe_keys.specs.Answers.{placed_cipher}

-- a key has 8 to 16 octets
pub key_least : (s : Strength) → 8 ≤ key_length s
key_least Bits40 = omega arith
key_least Bits56 = omega arith
key_least Bits128 = omega arith

pub key_most : (s : Strength) → key_length s ≤ 16
key_most Bits40 = omega arith
key_most Bits56 = omega arith
key_most Bits128 = omega arith

-- a key copied over zeros
pub key_placed : {places : List ℕ} (key : List ℕ) → places ≡ written (take 16 key) (replicate 16 0) → length key ≤ 16 → places ≡ placed key
unfolding placed
key_placed key e h = rw (e, take_all 16 key h, drop_zeros)

-- up to three of them are fixed
pub head_most : (s : Strength) → length (head_of s) ≤ 3
unfolding head_of
head_most Bits40 = omega arith
head_most Bits56 = omega arith
head_most Bits128 = omega arith

-- the lengths of all keys
pub master_key_length : (hash_hash response : List ℕ) → length (master_key hash_hash response) ≡ 16
unfolding master_key
master_key_length hash_hash response =
    let text : List ℕ = hash_hash ++ response ++ magic1 in
    length-take-le 16 (sha1 text) (omega (arith, sha1_length text))

pub front_length_lem : (s : Strength) (m : List ℕ) → length (take (key_length s) (sha1 m)) ≡ key_length s
front_length_lem s m = length-take-le (key_length s) (sha1 m) (omega (arith, sha1_length m, key_most s))

pub start_key_length : (s : Strength) (role : Role) (direction : Direction) (master : List ℕ)
    → length (start_key s role direction master) ≡ key_length s
unfolding start_key
start_key_length s role direction master = front_length_lem s (key_text master (phrase role direction))

pub new_key_length : (s : Strength) (start session : List ℕ) → length (new_key s start session) ≡ key_length s
unfolding new_key
new_key_length s start session = front_length_lem s (key_text start session)

pub reduced_length : (s : Strength) (key : List ℕ) → length key ≡ key_length s → length (reduced s key) ≡ key_length s
unfolding reduced
reduced_length s key h = simp (length-append, length-drop) (omega (arith, key_least s, head_most s))

pub initial_key_length : (s : Strength) (start : List ℕ) → length (initial_key s start) ≡ key_length s
unfolding initial_key
initial_key_length s start = reduced_length s (new_key s start start) (new_key_length s start start)

-- in 16 places every key has 16 octets
pub placed_length : (key : List ℕ) → length key ≤ 16 → length (placed key) ≡ 16
unfolding placed
placed_length key h = simp (length-append, length-replicate) (omega arith)

-- the first of the strength's octets of a session key in 16 places are never refused as a key, and are what RC4 is keyed with there
pub places_keyed : {k : ℕ} {keyed : Result Rc4 Refusal} (s : Strength) (session : List ℕ) → k ≡ key_length s → keyed ≡ keyed_answer (take k session)
    → length session ≡ 16 → keyed ≡ Ok (placed_cipher s session)
unfolding placed_cipher
places_keyed s session ek e h =
    let long = length-take-le (key_length s) session (omega (arith, h, key_most s)) in
    rw (e, ek, keyed_done (take (key_length s) session) (omega (arith, long, key_least s)) (omega (arith, long, key_most s)))

-- a key change keeps the key's length ..
pub key_change_length : (s : Strength) (start session : List ℕ) → length (key_change s start session) ≡ key_length s
unfolding key_change
key_change_length s start session =
    let interim : List ℕ = new_key s start session in
    reduced_length s _ (run_length (key_schedule interim) interim ∙ new_key_length s start session)

pub changes_length : (s : Strength) (start : List ℕ) (n : ℕ) (session : List ℕ) → length session ≡ key_length s
    → length (changes s start n session) ≡ key_length s
unfolding changes
changes_length s start zero session h = h
changes_length s start (suc n) session h = key_change_length s _ _

-- .. and its reduced beginning
pub reduced_head : (s : Strength) (key : List ℕ) → take (length (head_of s)) (reduced s key) ≡ head_of s
unfolding reduced
reduced_head s key = take-append_seam (head_of s) (drop (length (head_of s)) key)

pub initial_key_head : (s : Strength) (start : List ℕ) → take (length (head_of s)) (initial_key s start) ≡ head_of s
unfolding initial_key
initial_key_head s start = reduced_head s (new_key s start start)

pub key_change_head : (s : Strength) (start session : List ℕ) → take (length (head_of s)) (key_change s start session) ≡ head_of s
unfolding key_change
key_change_head s start session = reduced_head s _

pub changes_head : (s : Strength) (start : List ℕ) (n : ℕ) (session : List ℕ) → take (length (head_of s)) session ≡ head_of s
    → take (length (head_of s)) (changes s start n session) ≡ head_of s
unfolding changes
changes_head s start zero session h = h
changes_head s start (suc n) session h = key_change_head s _ _

-- reducing twice is reducing once
pub reduced_twice : (s : Strength) (key : List ℕ) → reduced s (reduced s key) ≡ reduced s key
unfolding reduced
reduced_twice s key = ap (λ (l : List ℕ). head_of s ++ l) (drop-append_seam (head_of s) (drop (length (head_of s)) key))

-- no change is the identity
pub changes_none : (s : Strength) (start session : List ℕ) → changes s start 0 session ≡ session
unfolding changes
changes_none s start session = refl

-- one is a key change
pub changes_one : (s : Strength) (start session : List ℕ) → changes s start 1 session ≡ key_change s start session
unfolding changes
changes_one s start session = refl

-- m key changes and then n are m + n
pub changes_add : (s : Strength) (start : List ℕ) (m n : ℕ) (session : List ℕ)
    → changes s start n (changes s start m session) ≡ changes s start (m + n) session
unfolding changes
changes_add s start m zero session = rw add-zero
changes_add s start m (suc n) session = rw (add-suc, changes_add s start m n session)

-- the value of a result, as `unwrap_or` tells it
pub unwrapped : {A : Type 0} (zeros : A) (r : Result A Refusal) → result_unwrap_or r zeros ≡ value_of zeros r
unwrapped zeros (Ok x) = refl
unwrapped zeros (Err e) = refl
