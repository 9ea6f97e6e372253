-- Texts and keys put together from parts, and the ways out of the calls.
use mathlib.Core.Path.{◌≡◌, refl, sym, ap, ◌∙◌}
use mathlib.Core.Bool.{Bool, true, false}
use mathlib.Core.List.{List, [], ◌∷◌, ◌++◌, append_assoc, append-nil}
use Prim.Native.Nat.{ℕ, ◌+◌, ◌*◌, ◌-◌, ◌≤◌}
use native.Mathlib.Omega.{arith}
use lib.Dec.{eqb}
use lib.ListN.{length, take, drop, replicate, length-append}
use lib.Seq.{take_all, take_at, drop_at, drop-append_seam, drop-append-le, drop-length}
use borrow.Author.Tests.{eq-eqb, ne_eqb}
use borrow.Rule.Slice.PartMut.{put_mid}
use Rattle.std.specs.List.{starts_with}
use Rattle.std.proofs.Common.{inl, inr, true≢false, ◌&&◌}
use Rattle.std.proofs.lemmas.Bool.Decides.{eqb_tells}
use Rattle.answer.specs.Answer.{pick}
use Rattle.octets.specs.Octets.{written}
use Rattle.sha_1.specs.Sha1.{sha1}
use Rattle.rc4.specs.Cipher.{key_schedule}
use Rattle.std.specs.Prelude.{Result, IsOk}
use Rattle.answer.specs.declared.Refusal.{Refusal}
use Rattle.rc4.specs.Answers.{apply_answer, apply_out}
use Rattle.rc4.proofs.Laws.{run_length, apply_done}
use Rattle.mppe_keys.specs.declared.Strength.{Strength}
use Rattle.mppe_keys.specs.Keys.{key_length, magic1, key_text, new_key, head_of, begins, reduced, rc4, key_change, changes, placed}
use Rattle.octets.specs.Laws.{written_more}
use Rattle.mppe_keys.specs.Inner.{Changed}
use Rattle.mppe_keys.proofs.Laws.{key_least, key_most, head_most, reduced_length, key_change_length, changes_length, changes_add}

-- what is hashed for a master key
pub master_laid : {t₁ t₂ t₃ : List ℕ} (z a b x : List ℕ) → x ≡ magic1 → t₁ ≡ take 0 z ++ a ++ drop (0 + length a) z
    → t₂ ≡ take 16 t₁ ++ b ++ drop (16 + length b) t₁ → t₃ ≡ take 40 t₂ ++ x ++ drop (40 + length x) t₂ → length a ≡ 16 → length b ≡ 24
    → length z ≡ 40 + length x → t₃ ≡ a ++ b ++ magic1
master_laid z a b x ex e₁ e₂ e₃ ha hb hz =
    let g₁ = written_more [] z a 0 refl e₁ refl in
    let g₂ = written_more a z b 16 g₁ e₂ ha in
    let front : length (a ++ b) ≡ 40 = simp length-append (omega arith) in
    let g₃ = written_more (a ++ b) z x 40 g₂ e₃ front in
    let size : length ((a ++ b) ++ x) ≡ length z = simp length-append (omega arith) in
    g₃ ∙ rw (size, drop-length z, append-nil, ex, append_assoc)

-- what is hashed for a key of two parts
pub text_put : {t₁ t₂ t₃ t₄ : List ℕ} (out a b : List ℕ) → t₁ ≡ take 0 out ++ a ++ drop (0 + length a) out
    → t₂ ≡ take (length a) t₁ ++ replicate 40 0 ++ drop (length a + 40) t₁ → t₃ ≡ take (length a + 40) t₂ ++ b ++ drop (length a + 40 + length b) t₂
    → t₄ ≡ take (length a + 40 + length b) t₃ ++ replicate 40 0xF2 ++ drop (length a + 40 + length b + 40) t₃ → t₄ ≡ written (key_text a b) out
unfolding key_text
text_put out a b e₁ e₂ e₃ e₄ =
    let g₁ = written_more [] out a 0 refl e₁ refl in
    let g₂ = written_more a out (replicate 40 0) (length a) g₁ e₂ refl in
    let front : length (a ++ replicate 40 0) ≡ length a + 40 = length-append a (replicate 40 0) in
    let g₃ = written_more (a ++ replicate 40 0) out b (length a + 40) g₂ e₃ front in
    let middle : length ((a ++ replicate 40 0) ++ b) ≡ length a + 40 + length b = simp length-append (omega arith) in
    let g₄ = written_more ((a ++ replicate 40 0) ++ b) out (replicate 40 0xF2) (length a + 40 + length b) g₃ e₄ middle in
    let parts : ((a ++ replicate 40 0) ++ b) ++ replicate 40 0xF2 ≡ a ++ replicate 40 0 ++ b ++ replicate 40 0xF2 = simp append_assoc in
    g₄ ∙ ap (λ (l : List ℕ). written l out) parts

-- a key that begins with these, as a slice tells it
same_either_way : (a b : ℕ) → eqb a b ≡ eqb b a
same_either_way a b = elim (eqb_tells a b) [ inl told ↦ rw (told.0, eq-eqb b a (sym told.1)) | inr told ↦ rw (told.0, ne_eqb b a (λ e. told.1 (sym e))) ]

both_begin : (a b : Bool) {p q : Bool} → a ≡ b → p ≡ q → a && p ≡ pick b q false
both_begin true true e h = h
both_begin true false e h = absurd (true≢false e)
both_begin false true e h = absurd (true≢false (sym e))
both_begin false false e h = refl

pub begins_told : (key h : List ℕ) → starts_with eqb key h ≡ begins h key
unfolding begins
begins_told key [] = refl
begins_told [] (y ∷ ys) = refl
begins_told (x ∷ xs) (y ∷ ys) = both_begin (eqb y x) (eqb x y) (same_either_way y x) (begins_told xs ys)

-- a key reduced in front of something else
reduced_front : (s : Strength) (key rest : List ℕ) → length key ≡ key_length s → reduced s (key ++ rest) ≡ reduced s key ++ rest
unfolding reduced
reduced_front s key rest h = rw (drop-append-le (length (head_of s)) key rest (omega (arith, key_least s, head_most s)), append_assoc)

-- a key reduced in its places
pub placed_reduced : (s : Strength) (key : List ℕ) → length key ≡ key_length s → reduced s (placed key) ≡ placed (reduced s key)
unfolding placed
placed_reduced s key h = reduced_front s key (replicate (16 - length key) 0) h ∙ rw (reduced_length s key h, h)

-- RC4 keyed with the interim key and applied to it, reduced, in front of a buffer
pub interim_applied : {r : Result (Unit {0}) Refusal} (s : Strength) (interim out : List ℕ) → r ≡ apply_answer interim interim out
    → length interim ≡ key_length s → key_length s ≤ length out → IsOk r
interim_applied s interim out e li h =
    let least = key_least s in
    let most = key_most s in
    rw (e, (apply_done interim interim out (omega arith) (omega arith) (omega arith) (omega arith)).0)

pub next_put : {out₁ out₂ : List ℕ} (s : Strength) (interim out : List ℕ) → out₁ ≡ apply_out interim interim out → out₂ ≡ reduced s out₁
    → length interim ≡ key_length s → key_length s ≤ length out → out₂ ≡ written (reduced s (rc4 interim interim)) out
next_put s interim out e₁ e₂ li h =
    let next : List ℕ = rc4 interim interim in
    let size : length next ≡ key_length s = run_length (key_schedule interim) interim ∙ li in
    let least = key_least s in
    let most = key_most s in
    let applied = apply_done interim interim out (omega arith) (omega arith) (omega arith) (omega arith) in
    rw (e₂, e₁, applied.1, reduced_front s next (drop (length next) out) size, reduced_length s next size, size)

-- a text that is hashed: its length, and its parts
padded_length : (a b : List ℕ) → length (key_text a b) ≡ length a + length b + 80
unfolding key_text
padded_length a b = simp length-append (omega arith)

padded_parts : (a b rest : List ℕ) → key_text a b ++ rest ≡ (a ++ replicate 40 0) ++ (b ++ (replicate 40 0xF2 ++ rest))
unfolding key_text
padded_parts a b rest = simp append_assoc

pub padded_front : (a b rest : List ℕ) (n : ℕ) → length a + length b + 80 ≡ n → take n (key_text a b ++ rest) ≡ key_text a b
padded_front a b rest n h = take_at (key_text a b) rest n (padded_length a b ∙ h)

-- a part of a buffer exchanged for another of its length
replaced : {text ys : List ℕ} (front old tail new : List ℕ) (at : ℕ) → text ≡ front ++ (old ++ tail)
    → ys ≡ written new (take (length text - at) (drop at text)) → length front ≡ at → length new ≡ length old
    → put_mid at (length text - at) text ys ≡ front ++ (new ++ tail)
replaced {text} front old tail new at et ey hf hn =
    let size : length text - at ≡ length (old ++ tail) = omega (arith, simp length-append at (ap length et), length-append old tail) in
    let part : drop at text ≡ old ++ tail = ap (drop at) et ∙ drop_at front (old ++ tail) at hf in
    let before : take at text ≡ front = ap (take at) et ∙ take_at front (old ++ tail) at hf in
    rw
    (ey, size, before, part, take_all (length (old ++ tail)) (old ++ tail) (omega arith), drop-length (old ++ tail), hn, drop-append_seam old tail, append-nil)

-- what is hashed of a buffer that a text was written into
pub front_hashed : {text digest : List ℕ} (first second out : List ℕ) → text ≡ written (key_text first second) out
    → digest ≡ sha1 (take (length first + length second + 80) text) → digest ≡ sha1 (key_text first second)
front_hashed first second out et ed = rw (ed, et, padded_front first second (drop (length (key_text first second)) out) (length first + length second + 80) refl)

-- a key change in a text that is hashed
interim_made : {k : ℕ} {text digest : List ℕ} (s : Strength) (start session rest : List ℕ) → k ≡ key_length s → text ≡ key_text start session ++ rest
    → digest ≡ sha1 (take (2 * k + 80) text) → length start ≡ key_length s → length session ≡ key_length s → take k digest ≡ new_key s start session
unfolding new_key
interim_made {k} s start session rest ek et ed hs hn = rw (ed, et, padded_front start session rest (2 * k + 80) (omega arith), ek)

pub changed_once : {k m : ℕ} {digest ys text' : List ℕ} (s : Strength) (text : List ℕ) → k ≡ key_length s → length text ≡ m → digest ≡ sha1 (take (2 * k + 80) text)
    → ys ≡ written (reduced s (rc4 (take k digest) (take k digest))) (take (m - (k + 40)) (drop (k + 40) text))
    → text' ≡ put_mid (k + 40) (m - (k + 40)) text ys → Changed s 1 text text'
unfolding Changed changes key_change
changed_once {k} {m} {digest} s text ek em ed ey e' start session rest hs hn et =
    let interim : take k digest ≡ new_key s start session = interim_made s start session rest ek et ed hs hn in
    let front : length (start ++ replicate 40 0) ≡ k + 40 = length-append start (replicate 40 0) ∙ omega arith in
    let size : length (key_change s start session) ≡ length session = key_change_length s start session ∙ sym hn in
    rw (← em) at e'
    ∙ replaced (start ++ replicate 40 0) session (replicate 40 0xF2 ++ rest) (key_change s start session) (k + 40) (et ∙ padded_parts start session rest) (rw (interim, ← em) at ey) front size
    ∙ sym (padded_parts start (key_change s start session) rest)

-- one key change more
pub changed_none : (s : Strength) (text : List ℕ) → Changed s 0 text text
unfolding Changed changes
changed_none s text start session rest hs hn et = et

pub changed_more : (s : Strength) (i : ℕ) (text text' text'' : List ℕ) → Changed s i text text' → Changed s 1 text' text'' → Changed s (i + 1) text text''
unfolding Changed
changed_more s i text text' text'' e e' start session rest hs hn et =
    rw (← changes_add s start i 1 session) (e' start (changes s start i session) rest hs (changes_length s start i session hn) (e start session rest hs hn et))

-- the session key that stands in such a text
pub session_part : (k : ℕ) (start key rest : List ℕ) → length start ≡ k → length key ≡ k
    → take (2 * k + 40 - (k + 40)) (drop (k + 40) (key_text start key ++ rest)) ≡ key
session_part k start key rest hs hk =
    let size : 2 * k + 40 - (k + 40) ≡ k = omega arith in
    let front : length (start ++ replicate 40 0) ≡ k + 40 = length-append start (replicate 40 0) ∙ omega arith in
    rw
    (size, padded_parts start key rest, drop_at (start ++ replicate 40 0) (key ++ (replicate 40 0xF2 ++ rest)) (k + 40) front, take_at key (replicate 40 0xF2 ++ rest) k hk)

pub key_changed : {k : ℕ} {text key : List ℕ} (s : Strength) (start session rest text' : List ℕ) (n : ℕ) → k ≡ key_length s → text ≡ key_text start session ++ rest
    → Changed s n text text' → key ≡ placed (take (2 * k + 40 - (k + 40)) (drop (k + 40) text')) → length start ≡ key_length s → length session ≡ key_length s
    → key ≡ placed (changes s start n session)
unfolding Changed
key_changed {k} s start session rest text' n ek et e ey hs hn =
    rw
    (ey, e start session rest hs hn et, session_part k start (changes s start n session) rest (hs ∙ sym ek) (changes_length s start n session hn ∙ sym ek))
