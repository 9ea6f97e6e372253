-- Laws of RC4, which follow from the definitions alone.
use Rattle.std.specs.Prelude.{◌≡◌, refl, Bool, List, [], ◌∷◌, ◌++◌, ℕ, zero, suc, ◌/◌, ◌%◌, ◌<◌, ◌≤◌, length, replicate, Ok}
use Rattle.std.proofs.Common.{ap, ◌∙◌, div-add-mod', arith, le-ltb}
use Rattle.std.proofs.Math.Bool.{and-false}
use Rattle.std.proofs.Math.Arith.{bin_ind}
use Rattle.std.specs.Int.Bits.{bit_xor, differ, xor_step, xor_self}
use Rattle.std.proofs.lemmas.Nat.{xor_shr, xor_mod}
use Rattle.answer.specs.Answer.{done, on_done, number_of, value_of, result_of}
use Rattle.answer.specs.Laws.{number_first, value_result}
use Rattle.octets.specs.Octets.{written, longest_text}
use Rattle.rc4.specs.declared.Rc4.{Rc4}
use Rattle.rc4.specs.Cipher.{box, key_schedule, step, drawn, run, after}
use Rattle.rc4.specs.Answers.{shortest_key, longest_key, key_rows, key_code, keyed_answer, run_rows, run_code, run_answer, run_out, apply_rows, apply_code, apply_answer, apply_out, keyed_if, number, numbered_rows, number_rows, number_code, within_code, within_answer, within_out}

-- the result is as long as the text
pub run_length : (s : Rc4) (text : List ℕ) → length (run s text) ≡ length text
unfolding run
run_length s [] = refl
run_length s (x ∷ xs) = ap suc (run_length (step s) xs)

-- a text cut anywhere and run on one box gives the uncut result ..
pub run_cut : (s : Rc4) (front rest : List ℕ) → run s (front ++ rest) ≡ run s front ++ run (after s front) rest
unfolding run after
run_cut s [] rest = refl
run_cut s (x ∷ xs) rest = rw (run_cut (step s) xs rest)

-- .. and leaves the uncut box
pub after_cut : (s : Rc4) (front rest : List ℕ) → after s (front ++ rest) ≡ after (after s front) rest
unfolding after
after_cut s [] rest = refl
after_cut s (x ∷ xs) rest = after_cut (step s) xs rest

-- draws go by the length of a text alone
pub after_length : (s : Rc4) (a b : List ℕ) → length a ≡ length b → after s a ≡ after s b
unfolding after
after_length s [] [] e = refl
after_length s [] (y ∷ b) e = absurd (omega arith)
after_length s (x ∷ a) [] e = absurd (omega arith)
after_length s (x ∷ a) (y ∷ b) e = after_length (step s) a b (omega arith)

-- a digit, and a number, xored twice with another is itself
digit_twice : (x y : ℕ) → x < 2 → y < 2 → differ (bit_xor x y) y ≡ x
digit_twice zero zero hx hy = refl
digit_twice zero (suc zero) hx hy = refl
digit_twice zero (suc (suc y)) hx hy = omega arith
digit_twice (suc zero) zero hx hy = refl
digit_twice (suc zero) (suc zero) hx hy = refl
digit_twice (suc zero) (suc (suc y)) hx hy = omega arith
digit_twice (suc (suc x)) y hx hy = omega arith

xor_twice : (a b : ℕ) → bit_xor (bit_xor a b) b ≡ a
xor_twice =
    bin_ind (λ (n : ℕ). (b : ℕ) → bit_xor (bit_xor n b) b ≡ n) xor_self
    (λ n ih b. xor_step (bit_xor n b) b ∙ rw (xor_shr n b 1, ih (b / 2), xor_mod n b 1, digit_twice (n % 2) (b % 2) (omega arith) (omega arith)) (div-add-mod' n 2))

-- RC4 with one key, or from any one box, applied twice gives the text
pub run_twice : (s : Rc4) (text : List ℕ) → run s (run s text) ≡ text
unfolding run
run_twice s [] = refl
run_twice s (x ∷ xs) = rw (xor_twice x (drawn s), run_twice (step s) xs)

-- a key within its limits gives its key schedule
pub keyed_done : (key : List ℕ) → shortest_key ≤ length key → length key ≤ longest_key → keyed_answer key ≡ Ok (key_schedule key)
unfolding keyed_answer
keyed_done key low high = rw (le-ltb (length key) shortest_key low, le-ltb longest_key (length key) high)

-- a text within its limit and a buffer with room for it give the result and the state after it
pub run_done : (s : Rc4) (text out : List ℕ) → length text ≤ longest_text → length text ≤ length out
    → (run_answer s text out ≡ Ok (after s text)) × (run_out s text out ≡ written (run s text) out)
unfolding run_answer run_out
run_done s text out h fits =
    let code : run_code text out ≡ done = rw (le-ltb longest_text (length text) h, le-ltb (length out) (length text) fits) in
    (rw code, rw code)

-- a key, a text and a buffer within their limits give the result
pub apply_done : (key text out : List ℕ) → shortest_key ≤ length key → length key ≤ longest_key → length text ≤ longest_text → length text ≤ length out
    → (apply_answer key text out ≡ Ok tt) × (apply_out key text out ≡ written (run (key_schedule key) text) out)
unfolding apply_answer apply_out
apply_done key text out low high h fits =
    let code : apply_code key text out ≡ done =
    rw (le-ltb (length key) shortest_key low, le-ltb longest_key (length key) high, le-ltb longest_text (length text) h, le-ltb (length out) (length text) fits)
    in
    (rw code, rw code)

-- where a key and lengths are within their limits, the number that comes out decides
pub within_fits : (s : Rc4) (fresh : Bool) (key : List ℕ) (lowest highest : ℕ) (text out : List ℕ) → shortest_key ≤ length key → length key ≤ longest_key
    → number ≤ length text → length text ≤ longest_text → length text ≤ length out
    → (within_answer s fresh key lowest highest text out
    ≡ result_of (number_code lowest highest (run (keyed_if s fresh key) text)) (after (keyed_if s fresh key) text))
    × (within_out s fresh key lowest highest text out
    ≡ on_done (number_code lowest highest (run (keyed_if s fresh key) text)) (written (run (keyed_if s fresh key) text) out) out)
unfolding within_answer within_out
within_fits s fresh key lowest highest text out low high long h fits =
    let code : within_code s fresh key lowest highest text out ≡ number_code lowest highest (run (keyed_if s fresh key) text) =
    rw (le-ltb (length key) shortest_key low, le-ltb longest_key (length key) high, and-false fresh, le-ltb (length text) number long, le-ltb longest_text (length text) h, le-ltb (length out) (length text) fits)
    in
    (rw code, rw code)

-- the number of each answer is the first of its rows that applies
pub keyed_number : (key : List ℕ) → number_of (keyed_answer key) ≡ key_code key
unfolding keyed_answer
keyed_number key = number_first (key_rows key) (key_schedule key) refl

pub run_number : (s : Rc4) (text out : List ℕ) → number_of (run_answer s text out) ≡ run_code text out
unfolding run_answer
run_number s text out = number_first (run_rows text out) (after s text) refl

pub apply_number : (key text out : List ℕ) → number_of (apply_answer key text out) ≡ apply_code key text out
unfolding apply_answer
apply_number key text out = number_first (apply_rows key text out) tt refl

pub within_number : (s : Rc4) (fresh : Bool) (key : List ℕ) (lowest highest : ℕ) (text out : List ℕ)
    → number_of (within_answer s fresh key lowest highest text out) ≡ within_code s fresh key lowest highest text out
unfolding within_answer
within_number s fresh key lowest highest text out =
    number_first (numbered_rows fresh key (length text) (length out) ++ number_rows lowest highest (run (keyed_if s fresh key) text)) (after (keyed_if s fresh key) text) refl

-- a refused key has zeros, and a refused text leaves the state given
pub keyed_values : (key : List ℕ)
    → value_of (box (replicate 256 0) 0 0) (keyed_answer key) ≡ on_done (key_code key) (key_schedule key) (box (replicate 256 0) 0 0)
unfolding keyed_answer
keyed_values key = value_result (key_code key) (key_schedule key) (box (replicate 256 0) 0 0)

pub run_values : (s : Rc4) (text out : List ℕ) → value_of s (run_answer s text out) ≡ on_done (run_code text out) (after s text) s
unfolding run_answer
run_values s text out = value_result (run_code text out) (after s text) s

pub within_values : (s : Rc4) (fresh : Bool) (key : List ℕ) (lowest highest : ℕ) (text out : List ℕ)
    → value_of s (within_answer s fresh key lowest highest text out)
    ≡ on_done (within_code s fresh key lowest highest text out) (after (keyed_if s fresh key) text) s
unfolding within_answer
within_values s fresh key lowest highest text out = value_result (within_code s fresh key lowest highest text out) (after (keyed_if s fresh key) text) s
