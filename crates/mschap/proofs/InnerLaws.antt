-- Octets found, texts joined and digits written.
use Rattle.std.proofs.Common.{◌≡◌, refl, sym, ap, ◌∙◌, false, List, [], ◌∷◌, ◌++◌, append_assoc, append-nil, ℕ, zero, suc, ◌+◌, ◌*◌, ◌-◌, ◌/◌, ◌%◌, ◌≤◌, ◌<◌, add-one, arith, length, take, drop, replicate, get_or, length-append, length-drop, take_all, take_at, take-suc, length-take-le, ne_eqb, Ok}
use Rattle.std.proofs.Math.ListN.{set}
use Rattle.std.proofs.Math.Seq.{split_at}
use Rattle.std.proofs.lemmas.List.{set_at}
use Rattle.octets.specs.Octets.{written}
use Rattle.sha_1.specs.Sha1.{sha1, sha1_answer}
use Rattle.sha_1.specs.Laws.{sha1_done}
use Rattle.des.specs.Des.{encrypted}
use Rattle.des.specs.Laws.{encrypted_length}
use Rattle.mschap.specs.Name.{backslash, holds, hashed_name}
use Rattle.mschap.specs.Mschap.{z_password_hash, challenge_response, hex_digit, hex_digits, encoded}
use Rattle.mschap.proofs.Laws.{hashed_whole, hashed_user, hex_digits_length}

-- a name looked through up to a place: 0x5C stands there, another octet does, and the name ends
pub user_found : (name : List ℕ) (i : ℕ) → holds backslash (take i name) ≡ false → get_or name i 0 ≡ backslash → i < length name
    → drop (i + 1) name ≡ hashed_name name
user_found name i none e h =
    let parts : name ≡ take i name ++ backslash ∷ drop (i + 1) name = split_at name i 0 h ∙ rw (e, add-one) in
    sym (ap hashed_name parts ∙ hashed_user (take i name) (drop (i + 1) name) none)

pub none_before : (name : List ℕ) (i : ℕ) → ((k : ℕ) → k < i → get_or name k 0 ≡ backslash → ⊥) → holds backslash (take i name) ≡ false
unfolding holds
none_before name zero none = refl
none_before [] (suc i) none = refl
none_before (x ∷ xs) (suc i) none =
    rw (ne_eqb x backslash (none 0 (omega arith)), none_before xs i (λ k h. none (suc k) (omega arith)))

pub whole_name : (name : List ℕ) (i : ℕ) → holds backslash (take i name) ≡ false → length name ≤ i → name ≡ hashed_name name
whole_name name i none h = sym (hashed_whole name (rw (take_all i name h) at none))

-- the name from there on
pub user_part : (name : List ℕ) (k : ℕ) → drop k name ≡ hashed_name name → take (length name - k) (drop k name) ≡ hashed_name name
user_part name k e = take_all (length name - k) (drop k name) (omega (arith, length-drop k name)) ∙ e

-- the digest of three texts that were joined in a buffer
pub sha1_joined : {t : List ℕ} (a b c z : List ℕ) → t ≡ written (a ++ b ++ c) z → length a + length b + length c ≤ 288
    → sha1_answer (take (length a + length b + length c) t) ≡ Ok (sha1 (a ++ b ++ c))
sha1_joined a b c z et h =
    let text : List ℕ = a ++ b ++ c in
    let all : length text ≡ length a + length b + length c = simp length-append (omega arith) in
    rw (et, take_at text (drop (length text) z) (length a + length b + length c) all, sha1_done text (omega arith))

-- a response is three blocks, each under seven octets of the hash and zeros
pub response_joined : {key first second third r : List ℕ} (challenge hash : List ℕ) → key ≡ hash ++ replicate 5 0
    → first ≡ encrypted (take 7 key) challenge → second ≡ encrypted (take 7 (drop 7 key)) challenge
    → third ≡ encrypted (take 7 (drop 14 key)) challenge → r ≡ written (first ++ second ++ third) (replicate 24 0)
    → r ≡ challenge_response challenge hash
unfolding challenge_response z_password_hash
response_joined {key} {first} {second} {third} challenge hash ek e₁ e₂ e₃ er =
    let l₁ : length first ≡ 8 = ap length e₁ ∙ encrypted_length (take 7 key) challenge in
    let l₂ : length second ≡ 8 = ap length e₂ ∙ encrypted_length (take 7 (drop 7 key)) challenge in
    let l₃ : length third ≡ 8 = ap length e₃ ∙ encrypted_length (take 7 (drop 14 key)) challenge in
    let all : length (first ++ second ++ third) ≡ 24 = simp length-append (omega arith) in
    er ∙ rw (all, append-nil, e₁, e₂, e₃, ek)

-- the digits of one octet more
digits_snoc : (l : List ℕ) (x : ℕ) → hex_digits (l ++ x ∷ []) ≡ hex_digits l ++ (hex_digit (x / 16) ∷ hex_digit (x % 16) ∷ [])
unfolding hex_digits
digits_snoc [] x = refl
digits_snoc (y ∷ ys) x = rw (digits_snoc ys x)

two_more : (l : List ℕ) (a b : ℕ) (rest : List ℕ) → (l ++ a ∷ []) ++ b ∷ rest ≡ (l ++ a ∷ b ∷ []) ++ rest
two_more l a b rest = append_assoc l (a ∷ []) (b ∷ rest) ∙ sym (append_assoc l (a ∷ b ∷ []) rest)

pub encoded_more : {s : List ℕ} (d : List ℕ) (i a b : ℕ) → s ≡ encoded (take i d) ++ replicate (40 - 2 * i) 0 → i < length d → i < 20
    → a ≡ hex_digit (get_or d i 0 / 16) → b ≡ hex_digit (get_or d i 0 % 16)
    → set (set s (2 * i + 2) a) (2 * i + 3) b ≡ encoded (take (i + 1) d) ++ replicate (40 - 2 * (i + 1)) 0
unfolding encoded
encoded_more {s} d i a b e h h' ea eb =
    let front : List ℕ = encoded (take i d) in
    let digits : length (hex_digits (take i d)) ≡ 2 * i = hex_digits_length (take i d) ∙ ap (λ (n : ℕ). 2 * n) (length-take-le i d (omega arith)) in
    let place : length front ≡ 2 * i + 2 = rw digits (omega arith) in
    let place' : length (front ++ a ∷ []) ≡ 2 * i + 3 = length-append front (a ∷ []) ∙ omega arith in
    let left : 40 - 2 * i ≡ suc (suc (40 - 2 * (i + 1))) = omega arith in
    let rest : List ℕ = replicate (40 - 2 * (i + 1)) 0 in
    rw (e, left, set_at front 0 (0 ∷ rest) a (2 * i + 2) place)
    (let again : front ++ a ∷ 0 ∷ rest ≡ (front ++ a ∷ []) ++ 0 ∷ rest = sym (append_assoc front (a ∷ []) (0 ∷ rest)) in
    rw (again, set_at (front ++ a ∷ []) 0 rest b (2 * i + 3) place')
    (let one : take (i + 1) d ≡ take i d ++ (get_or d i 0 ∷ []) = rw (add-one, take-suc d i 0 h) in rw (one, digits_snoc (take i d) (get_or d i 0), ea, eb) (two_more front _ _ rest)))

pub encoded_all : {s : List ℕ} (d : List ℕ) (i : ℕ) → s ≡ encoded (take i d) ++ replicate (40 - 2 * i) 0 → i ≡ 20 → length d ≡ 20
    → s ≡ encoded d
encoded_all d i e ei h = e ∙ rw (ei, take_all 20 d (omega arith), append-nil)
