-- What only private functions promise: open's table and result in the parts that the code works them out in.
use Rattle.std.specs.Prelude.{Bool, true, false, not, ◌||◌, List, [], ◌∷◌, ◌++◌, ℕ, ◌+◌, eqb, ltb, length, Result as Answered}
use Rattle.answer.specs.declared.Refusal.{Refusal}
use Rattle.answer.specs.Answer.{room, protocol, flags, repeat, late, waiting, pick, outside, first_of, on_done, result_of}
use Rattle.octets.specs.Octets.{pair_at, written}
use Rattle.rc4.specs.declared.Rc4.{Rc4}
use Rattle.rc4.specs.Cipher.{key_schedule, run, after}
use Rattle.mppe_keys.specs.Keys.{by_mode}
use Rattle.mppe.specs.declared.Link.{Link}
use Rattle.mppe.specs.declared.Outcome.{Outcome}
use Rattle.mppe.specs.declared.Judged.{Judged}
use Rattle.mppe.specs.Link.{shortest_plain, front, off_protocol, bit_a, bit_d, lacks, opens_by, away_for, changes_for, session_key_in, with_box, kept_box, Result, header_rows, data_rows, opened_by}

-- a packet has a wrong length or another protocol number: the rows of open's table that its shape decides, as one test
abbrev pub misshapen : ℕ → List ℕ → Bool
misshapen limit packet = outside (front + shortest_plain) (front + limit) (length packet) || not (eqb (pair_at 0 packet) 0x00FD)

-- the rows that a record, a header, its distance, the length of the data and that of the lent buffer decide, 5, 6, 10, 11, 2, and the
-- number by them
abbrev pub room_rows : (far : ℕ) (l : Link) (h away n lent : ℕ) → List (ℕ × Bool)
room_rows far l h away n lent =
    (flags, by_mode l.mode (lacks bit_a h) false)
    ∷ (flags, lacks bit_d h)
    ∷ (repeat, eqb away 0)
    ∷ (late, ltb far away)
    ∷ (waiting, not (opens_by (lacks bit_a h) away l.waiting))
    ∷ (room, ltb lent n)
    ∷ []

unfoldable pub header_code : (far : ℕ) (l : Link) (h away n lent : ℕ) → ℕ
header_code far l h away n lent = first_of (room_rows far l h away n lent)

-- what a record says of a header, and the key changes that its count brings
unfoldable pub judged_header : (far : ℕ) (l : Link) (h n lent : ℕ) → Judged
judged_header far l h n lent =
    record { answer = header_code far l h (away_for l h) n lent; changes = changes_for l h }

-- RC4 keyed afresh with a record's session key, or as the record holds it
abbrev pub cipher_in : Link → (fresh : Bool) → Rc4
cipher_in l fresh = pick fresh (key_schedule (session_key_in l)) l.state

-- a text deciphered under a record: the number by its protocol number, and the box after the draws; a refused one leaves the record's box and
-- the lent buffer as they were
abbrev pub carried_code : (plain : List ℕ) → ℕ
carried_code plain = first_of ((protocol, off_protocol plain) ∷ [])

unfoldable pub deciphered : (l : Link) (fresh : Bool) (text : List ℕ) → Answered Rc4 Refusal
deciphered l fresh text = result_of (carried_code (run (cipher_in l fresh) text)) (after (cipher_in l fresh) text)

unfoldable pub deciphered_out : (l : Link) (fresh : Bool) (text out : List ℕ) → List ℕ
deciphered_out l fresh text out =
    let plain : List ℕ = run (cipher_in l fresh) text in
    on_done (carried_code plain) (written plain out) out

-- a record whose key and count are moved on, after draws that left a box, and where it waits
abbrev pub settled_on : Link → Rc4 → Link
settled_on l drawn = with_box l (kept_box l drawn) false

unfoldable pub waited_on : Link → ℕ → Outcome
waited_on l changed =
    record { answer = waiting; changes = changed; link = with_box l (on_done changed l.state (key_schedule (session_key_in l))) true }

-- what open gives for data behind a header
unfoldable pub data_result : (far : ℕ) (l : Link) (h : ℕ) (text out : List ℕ) → Result
data_result far l h text out = opened_by (first_of (header_rows far l h ++ data_rows l h text (length out))) l h text out
