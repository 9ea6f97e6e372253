-- What the calls answer (01, "Numbers a call may answer" and "Lengths").
use Rattle.std.specs.Prelude.{Bool, ◌&&◌, List, [], ◌∷◌, ◌++◌, ℕ, ltb, length, Result}
use Rattle.answer.specs.declared.Refusal.{Refusal}
use Rattle.answer.specs.Answer.{size, room, protocol, pick, outside, first_of, on_done, result_of}
use Rattle.octets.specs.Octets.{pair_at, written, longest_text}
use Rattle.rc4.specs.declared.Rc4.{Rc4}
use Rattle.rc4.specs.declared.Drawn.{Drawn}
use Rattle.rc4.specs.Cipher.{key_schedule, step, drawn, run, after}

-- "RC4 key: 1 to 256"
abbrev pub shortest_key : ℕ
shortest_key = 1

abbrev pub longest_key : ℕ
longest_key = 256

-- the row for a key, and its number
abbrev pub key_rows : List ℕ → List (ℕ × Bool)
key_rows key = (size, outside shortest_key longest_key (length key)) ∷ []

abbrev pub key_code : List ℕ → ℕ
key_code key = first_of (key_rows key)

-- a key gives its state
unfoldable pub keyed_answer : List ℕ → Result Rc4 Refusal
keyed_answer key = result_of (key_code key) (key_schedule key)

-- any state draws
abbrev pub draw_answer : Rc4 → Drawn
draw_answer s = record { octet = drawn s; state = step s }

-- the rows for a text and a lent buffer, by their lengths, and their number
abbrev pub text_rows : (n lent : ℕ) → List (ℕ × Bool)
text_rows n lent = (size, ltb longest_text n) ∷ (room, ltb lent n) ∷ []

abbrev pub run_rows : (text out : List ℕ) → List (ℕ × Bool)
run_rows text out = text_rows (length text) (length out)

abbrev pub run_code : (text out : List ℕ) → ℕ
run_code text out = first_of (run_rows text out)

-- a text gives the state after it; where it is refused, the caller still has the state that it gave ..
unfoldable pub run_answer : (s : Rc4) (text out : List ℕ) → Result Rc4 Refusal
run_answer s text out = result_of (run_code text out) (after s text)

-- .. and the lent buffer is as it was
unfoldable pub run_out : (s : Rc4) (text out : List ℕ) → List ℕ
run_out s text out = on_done (run_code text out) (written (run s text) out) out

-- those of a key before those of a text and a lent buffer
abbrev pub apply_rows : (key text out : List ℕ) → List (ℕ × Bool)
apply_rows key text out = key_rows key ++ run_rows text out

abbrev pub apply_code : (key text out : List ℕ) → ℕ
apply_code key text out = first_of (apply_rows key text out)

-- RC4 keyed with a key, applied to a text: nothing is handed back beside the octets ..
unfoldable pub apply_answer : (key text out : List ℕ) → Result (Unit {0}) Refusal
apply_answer key text out = result_of (apply_code key text out) tt

-- .. and a refusal leaves the lent buffer as it was
unfoldable pub apply_out : (key text out : List ℕ) → List ℕ
apply_out key text out = on_done (apply_code key text out) (written (run (key_schedule key) text) out) out

-- the state of a key where RC4 is keyed afresh, else the one given
unfoldable pub keyed_if : (s : Rc4) (fresh : Bool) (key : List ℕ) → Rc4
keyed_if s fresh key = pick fresh (key_schedule key) s

-- a text begins with a number of two octets, highest first: shorter ones have none ..
abbrev pub number : ℕ
number = 2

abbrev pub numbered_rows : (fresh : Bool) (key : List ℕ) (n lent : ℕ) → List (ℕ × Bool)
numbered_rows fresh key n lent = (size, fresh && outside shortest_key longest_key (length key)) ∷ (size, ltb n number) ∷ text_rows n lent

-- .. and the one that comes out must lie within bounds, or the text is not taken
abbrev pub number_rows : (lowest highest : ℕ) (plain : List ℕ) → List (ℕ × Bool)
number_rows lowest highest plain = (protocol, outside lowest highest (pair_at 0 plain)) ∷ []

abbrev pub number_code : (lowest highest : ℕ) (plain : List ℕ) → ℕ
number_code lowest highest plain = first_of (number_rows lowest highest plain)

abbrev pub within_code : (s : Rc4) (fresh : Bool) (key : List ℕ) (lowest highest : ℕ) (text out : List ℕ) → ℕ
within_code s fresh key lowest highest text out =
    first_of (numbered_rows fresh key (length text) (length out) ++ number_rows lowest highest (run (keyed_if s fresh key) text))

-- a text gives the state after it; where it is refused, the caller still has the state that it gave ..
unfoldable pub within_answer : (s : Rc4) (fresh : Bool) (key : List ℕ) (lowest highest : ℕ) (text out : List ℕ) → Result Rc4 Refusal
within_answer s fresh key lowest highest text out =
    result_of (within_code s fresh key lowest highest text out) (after (keyed_if s fresh key) text)

-- .. and the lent buffer is as it was
unfoldable pub within_out : (s : Rc4) (fresh : Bool) (key : List ℕ) (lowest highest : ℕ) (text out : List ℕ) → List ℕ
within_out s fresh key lowest highest text out =
    on_done (within_code s fresh key lowest highest text out) (written (run (keyed_if s fresh key) text) out) out
