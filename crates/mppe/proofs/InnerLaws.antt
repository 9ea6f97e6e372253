-- The ways out of the link's functions, over plain lists and numbers.
use mathlib.Core.Path.{◌≡◌, refl, sym, ap, ◌∙◌}
use mathlib.Core.Bool.{Bool, true, false, not, ◌&&◌, ◌||◌, true≢false}
use mathlib.Core.List.{List, [], ◌∷◌, ◌++◌, append_assoc, append-nil}
use Prim.Native.Nat.{ℕ, zero, suc, ◌+◌, ◌-◌, ◌<◌, ◌≤◌}
use native.Mathlib.Nat.{suc-ne-zero}
use native.Mathlib.Numerals.{add-one}
use native.Mathlib.Omega.{arith}
use lib.Dec.{eqb, ltb}
use lib.ListN.{length, take, drop, get_or, drop_of_length-le, replicate, length-append, length-drop}
use lib.Seq.{length-take-le, drop-cons, drop-drop, drop-length, take_all, take_at, drop_at}
use borrow.Author.Tests.{eq-eqb, ne_eqb, ltb-true, ltb-false, not-false}
use borrow.Rule.Slice.PartMut.{put_mid}
use Rattle.answer.specs.Answer.{done, shape, room, size, protocol, not_record, waiting, pick, outside, wrong, first_of, on_done, one_code}
use Rattle.answer.specs.Laws.{both, clear, never, rows_pass, rows_stop, not_done, within, right, right_length, ok_only, err_only}
use Rattle.octets.specs.Octets.{pair_at, written}
use Rattle.rc4.specs.declared.Rc4.{Rc4}
use Rattle.rc4.specs.Cipher.{key_schedule, run, after, unkeyed}
use Rattle.rc4.specs.Answers.{apply_answer, apply_out, keyed_if, within_answer, within_out}
use Rattle.rc4.proofs.Laws.{apply_done, within_fits}
use Rattle.mppe_keys.specs.declared.Strength.{Strength}
use Rattle.mppe_keys.specs.declared.Mode.{Mode}
use Rattle.mppe_keys.specs.declared.Mode.TheVariants.{Stateless, Stateful}
use Rattle.std.specs.Prelude.{Ok, Err, IsOk, is_ok, Result as Answered}
use Rattle.answer.specs.declared.Refusal.{Refusal}
use Rattle.mppe_keys.specs.Keys.{key_length, by_mode, changes, placed, initial_key}
use Rattle.mppe_keys.specs.Answers.{key_answer, initial_key_answer}
use Rattle.mppe_keys.proofs.Laws.{key_placed, key_least, key_most, changes_length}
use Rattle.ccp.specs.Reset.{reset_rows, reset_answer}
use Rattle.ccp.proofs.Laws.{reset_done, reset_shape}
use Rattle.mppe.specs.declared.Link.{Link}
use Rattle.mppe.specs.declared.Outcome.{Outcome}
use Rattle.mppe.specs.declared.Judged.{Judged}
use Rattle.mppe.specs.Link.{zeros, changes_over, with_box, kept_box, no_link, packet_on, shortest_plain, longest_plain, front, counts, new_count, well_formed, start_key_in, session_key_in, renewed, new_link, new_link_code, off_protocol, bit_a, header, header_in, data_in, count_of, Result, refusal}
use Rattle.mppe.specs.Link.{plain_rows, next_count, next_changes, next_key, keys_afresh, next_box, seal_code, seal_result, away_for, changes_for, key_for, box_for, state_for, plain_for, waited, lacks, link_after, front_rows, header_rows, data_rows, open_code, open_result, reset_code, reset_outcome}
use Rattle.mppe.specs.Inner.{misshapen, judged_header, room_rows, header_code, cipher_in, carried_code, deciphered, deciphered_out, settled_on, waited_on, data_result}
use Rattle.mppe.proofs.Laws.{key_back, well_box, fits_unmarked}

-- one place more that is 0, one that is not, and the end of the places
pub zeros_more : {b : Bool} (l : List ℕ) (i : ℕ) → b ≡ zeros (drop i l) → get_or l i 0 ≡ 0 → i < length l → b ≡ zeros (drop (i + 1) l)
unfolding zeros
zeros_more l i e none h = e ∙ rw (drop-cons l i 0 h, eq-eqb (get_or l i 0) 0 none, add-one i)

pub zeros_not : {b : Bool} (l : List ℕ) (i : ℕ) → b ≡ zeros (drop i l) → (get_or l i 0 ≡ 0 → ⊥) → i < length l → false ≡ b
unfolding zeros
zeros_not l i e some h = sym (e ∙ rw (drop-cons l i 0 h, ne_eqb (get_or l i 0) 0 some))

pub zeros_end : {b : Bool} (l : List ℕ) (i : ℕ) → b ≡ zeros (drop i l) → length l ≤ i → true ≡ b
unfolding zeros
zeros_end l i e h = sym (e ∙ rw (drop_of_length-le l {i = i} h))

-- a cipher, keyed afresh or as it is held
pub cipher_fresh : {r : Rc4} (fresh : Bool) (keyed held : Rc4) → fresh ≡ true → r ≡ keyed → r ≡ pick fresh keyed held
cipher_fresh fresh keyed held e er = rw e er

pub cipher_held : (fresh : Bool) (keyed held : Rc4) → fresh ≡ false → held ≡ pick fresh keyed held
cipher_held fresh keyed held e = rw e

-- a text enciphered under a record: from the key at once in stateless mode, and on the box in stateful mode
pub applied : {r : Answered (Unit {0}) Refusal} {ys : List ℕ} {n : ℕ} (l : Link) (fresh : Bool) (text out : List ℕ) → l.mode ≡ Stateless
    → by_mode l.mode fresh true ≡ true → length text ≤ longest_plain → length text ≤ length out → length l.session ≡ 16 → n ≡ key_length l.strength
    → (r ≡ apply_answer (take n l.session) text out) × (ys ≡ apply_out (take n l.session) text out)
    → IsOk r × (l.state ≡ kept_box l (after (cipher_in l fresh) text)) × (ys ≡ written (run (cipher_in l fresh) text) out)
applied l fresh text out mode always short fits full en (er, ey) =
    let most = key_most l.strength in
    let least = key_least l.strength in
    let long : length (session_key_in l) ≡ key_length l.strength = length-take-le (key_length l.strength) l.session (omega arith) in
    let is : fresh ≡ true = rw mode at always in
    let done-is = apply_done (session_key_in l) text out (omega (arith, long)) (omega (arith, long)) (omega arith) fits in
    (rw (er, en) (ap is_ok done-is.0), rw mode, ey ∙ rw (en, is) done-is.1)

pub drawn_on : {cipher r : Rc4} {ys : List ℕ} (l : Link) (fresh : Bool) (text out : List ℕ) → l.mode ≡ Stateful → cipher ≡ cipher_in l fresh
    → (r ≡ after cipher text) × (ys ≡ written (run cipher text) out)
    → (r ≡ kept_box l (after (cipher_in l fresh) text)) × (ys ≡ written (run (cipher_in l fresh) text) out)
drawn_on l fresh text out mode ec (er, ey) = (er ∙ rw (ec, mode), ey ∙ rw ec)

-- a stateless packet is keyed afresh
pub fresh_stateless : {made count : ℕ} {next : Link} {fresh : Bool} (l : Link) (key : List ℕ) → made ≡ next_changes l → next ≡ renewed l key count
    → fresh ≡ (not (eqb made 0) || l.waiting) → by_mode next.mode fresh true ≡ true
unfolding changes_over
fresh_stateless {made} {count} {next} {fresh} l key em en ef = rw en (by l.mode refl)
  where
    by : (mode : Mode) → l.mode ≡ mode → by_mode mode fresh true ≡ true
    by Stateless e = ef ∙ rw (em, e)
    by Stateful e = refl

-- a text deciphered under a record
pub deciphered_is : {r : Answered Rc4 Refusal} {ys : List ℕ} {n : ℕ} (l : Link) (fresh : Bool) (text out : List ℕ) → length l.session ≡ 16 → shortest_plain ≤ length text
    → length text ≤ longest_plain → length text ≤ length out → n ≡ key_length l.strength
    → (r ≡ within_answer l.state fresh (take n l.session) 0x0021 0x00FA text out) × (ys ≡ within_out l.state fresh (take n l.session) 0x0021 0x00FA text out)
    → (r ≡ deciphered l fresh text) × (ys ≡ deciphered_out l fresh text out)
unfolding deciphered deciphered_out keyed_if
deciphered_is l fresh text out full long short fits en (er, ey) =
    let most = key_most l.strength in
    let least = key_least l.strength in
    let key : length (session_key_in l) ≡ key_length l.strength = length-take-le (key_length l.strength) l.session (omega arith) in
    let (answer-is, out-is) = within_fits l.state fresh (session_key_in l) 0x0021 0x00FA text out (omega arith) (omega arith) long (omega arith) fits in
    (er ∙ rw en answer-is, ey ∙ rw en out-is)

-- the only row of a table decides
decided : (n : ℕ) (t : Bool) → (first_of ((n, t) ∷ []) ≡ done → ⊥) → t ≡ true
decided n true h = refl
decided n false h = absurd (h refl)

-- a start key of a wrong length, and one of the right one
pub new_refused : {e : Refusal} {l : Link} (s : Strength) (mode : Mode) (start : List ℕ) → initial_key_answer s start ≡ Err e
    → l ≡ no_link s mode → record { answer = size; link = l } ≡ new_link s mode start
unfolding new_link initial_key_answer key_answer one_code
new_refused s mode start e el = rw (decided size (wrong (key_length s) start) (err_only (new_link_code s start) (placed (initial_key s start)) e), el)

pub new_done : {session places : List ℕ} {state : Rc4} {mark : Bool} (s : Strength) (mode : Mode) (start : List ℕ) → initial_key_answer s start ≡ Ok session
    → places ≡ written (take 16 start) (replicate 16 0) → state ≡ unkeyed → mark ≡ by_mode mode false true
    → record {
      answer = done;
      link = record { strength = s; mode = mode; start = places; session = session; count = new_count; state = state; waiting = mark };
    }
    ≡ new_link s mode start
unfolding new_link initial_key_answer key_answer one_code
new_done s mode start e ep es em =
    let (code, kept) = ok_only (new_link_code s start) (placed (initial_key s start)) e in
    let long = right_length (key_length s) start (clear size ((size, wrong (key_length s) start) ∷ []) refl code).0 in
    let key = key_placed start ep (omega (arith, long, key_most s)) in
    rw (← kept, right (key_length s) start long, key, es, em)

-- a well-formed record's count
pub count_bound : (l : Link) → well_formed l ≡ true → l.count < counts
unfolding well_formed
count_bound l h =
    ltb-true l.count counts
    (both (ltb l.count counts) _
    (both (ltb l.count counts && _) _ (both (ltb l.count counts && _ && _) _ (both (ltb l.count counts && _ && _ && _) _ h).0).0).0).0

-- what a call hands back and leaves in the lent buffer is a result
abbrev pub Gives : Outcome → List ℕ → Result → Type 0
Gives r out result = (r ≡ result.outcome) × (out ≡ result.buffer)

-- a refusal
refused_is : {r : Outcome} {code : ℕ} (result : Result) (code' : ℕ) (l : Link) (out : List ℕ) → code ≡ code' → (code ≡ done → ⊥) → r ≡ (refusal code l []).outcome
    → Gives r out (on_done code' result (refusal code' l out))
refused_is result code' l out e h er =
    rw (not_done code' result (refusal code' l out) (λ z. h (e ∙ z)), er, e) (refl, refl)

-- a record and a plain packet that seal's table lets pass
pub seal_passed : {code : ℕ} (limit : ℕ) (l : Link) (plain : List ℕ) (lent : ℕ) → code ≡ seal_code limit l plain lent → code ≡ done
    → (l.count < counts) × (length plain ≤ limit) × (front + length plain ≤ lent)
unfolding seal_code
seal_passed limit l plain lent e z =
    let rows : List (ℕ × Bool) = (not_record, not (well_formed l)) ∷ plain_rows limit plain lent in
    let zero = sym e ∙ z in
    let well = not-false (well_formed l) (clear not_record rows refl zero).0 in
    let long = (within shortest_plain limit (length plain) (clear size rows refl zero).0).1 in
    (count_bound l well, long, ltb-false lent (front + length plain) (clear room rows refl zero).0)

-- the part of a buffer behind a front that was put there
part_behind : {out₁ : List ℕ} (head out : List ℕ) → out₁ ≡ written head out → length head ≡ 4
    → (drop 4 out₁ ≡ drop 4 out) × (length out₁ - 4 ≡ length (drop 4 out))
part_behind {out₁} head out e h =
    let part : drop 4 out₁ ≡ drop 4 out = ap (drop 4) e ∙ drop_at head (drop (length head) out) 4 h ∙ ap (λ (n : ℕ). drop n out) h in
    (part, sym (length-drop 4 out₁) ∙ ap (λ (m : List ℕ). length m) part)

-- a text put there
behind_put : {out₁ ys : List ℕ} (head text out : List ℕ) → out₁ ≡ written head out → ys ≡ written text (drop 4 out) → length head ≡ 4
    → put_mid 4 (length out₁ - 4) out₁ ys ≡ written (head ++ text) out
behind_put {out₁} head text out e ey h =
    let (part, long) = part_behind head out e h in
    let lead : take 4 out₁ ≡ head = ap (take 4) e ∙ take_at head (drop (length head) out) 4 h in
    rw
    (ey, lead, part, long, drop-length (drop 4 out), append-nil, append_assoc, length-append head text, h, drop-drop (length text) 4 out)

-- the session key after n changes fills its places
changed_back : (l : Link) (n : ℕ) → length l.session ≡ 16
    → session_key_in (renewed l (changes l.strength (start_key_in l) n (session_key_in l)) l.count) ≡ changes l.strength (start_key_in l) n (session_key_in l)
changed_back l n long =
    let s : Strength = l.strength in
    let held : length (session_key_in l) ≡ key_length s = length-take-le (key_length s) l.session (omega (arith, long, key_most s)) in
    key_back s (changes s (start_key_in l) n (session_key_in l)) (changes_length s (start_key_in l) n (session_key_in l) held)

-- the room behind it
whole_behind : {out₁ : List ℕ} (head out : List ℕ) → out₁ ≡ written head out → length head ≡ 4 → take (length out₁ - 4) (drop 4 out₁) ≡ drop 4 out
whole_behind head out eh h4 =
    let (part, long) = part_behind head out eh h4 in
    rw (part, long) (take_all (length (drop 4 out)) (drop 4 out) (omega arith))

pub behind_fits : {out₁ : List ℕ} (fresh : Bool) (count n : ℕ) (out : List ℕ) → out₁ ≡ written (0x00 ∷ 0xFD ∷ header fresh count) out → front + n ≤ length out
    → n ≤ length (take (length out₁ - 4) (drop 4 out₁))
behind_fits fresh count n out eh fits = rw (whole_behind (0x00 ∷ 0xFD ∷ header fresh count) out eh refl) (omega (arith, length-drop 4 out))

-- a seal that is done, from what code works out
pub seal_finished : {code count made : ℕ} {next last : Link} {fresh : Bool} {kept : Rc4} {out₁ ys : List ℕ} (l : Link) (plain out : List ℕ)
    → length l.session ≡ 16 → code ≡ seal_code longest_plain l plain (length out) → code ≡ done → count ≡ next_count l → made ≡ next_changes l
    → next ≡ renewed l (changes l.strength (start_key_in l) made (session_key_in l)) count → fresh ≡ (not (eqb made 0) || l.waiting)
    → out₁ ≡ written (0x00 ∷ 0xFD ∷ header fresh count) out
    → (kept ≡ kept_box next (after (cipher_in next fresh) plain))
    × (ys ≡ written (run (cipher_in next fresh) plain) (take (length out₁ - 4) (drop 4 out₁)))
    → last ≡ with_box next kept false
    → Gives (record { answer = done; changes = made; link = last }) (put_mid 4 (length out₁ - 4) out₁ ys) (seal_result longest_plain l plain out)
unfolding seal_result packet_on next_box next_key
seal_finished {code} {count} {made} {next} {last} {fresh} {kept} {out₁} {ys} l plain out full e z ec em en ef eo (ek, ey) el =
    let key : List ℕ = next_key l in
    let is : next ≡ renewed l key (next_count l) = en ∙ rw (em, ec) in
    let session : session_key_in next ≡ key = ap session_key_in is ∙ changed_back l (next_changes l) full in
    let freshly : fresh ≡ keys_afresh l = ef ∙ rw em in
    let keyed : cipher_in next fresh ≡ next_box l = rw (freshly, session, is) in
    let head : List ℕ = 0x00 ∷ 0xFD ∷ header (keys_afresh l) (next_count l) in
    let eh : out₁ ≡ written head out = eo ∙ rw (ec, freshly) in
    let whole = whole_behind head out eh refl in
    let put : ys ≡ written (run (next_box l) plain) (drop 4 out) = ey ∙ rw (whole, keyed) in
    let settled : last ≡ with_box (renewed l key (next_count l)) (kept_box l (after (next_box l) plain)) false = el ∙ rw (ek, keyed, is) in
    rw (← e, z, settled, em) (refl, behind_put head (run (next_box l) plain) out eh put refl)

-- a refused open
open_refusal : {r : Outcome} {code : ℕ} (result wait : Result) (code' : ℕ) (l : Link) (out : List ℕ) → code ≡ code' → (code ≡ done → ⊥) → (code ≡ waiting → ⊥)
    → r ≡ (refusal code l []).outcome → Gives r out (on_done code' result (pick (eqb code' waiting) wait (refusal code' l out)))
open_refusal result wait code' l out e h h' er =
    rw (ne_eqb code' waiting (λ z. h' (e ∙ z))) (refused_is result code' l out e h er)

-- a packet refused by its shape or for its record
pub open_refused : {code : ℕ} {r : Outcome} (limit far : ℕ) (l : Link) (packet out : List ℕ) → code ≡ first_of (front_rows limit l packet) → (code ≡ done → ⊥)
    → r ≡ (refusal code l []).outcome → Gives r out (open_result limit far l packet out)
unfolding open_result open_code
open_refused limit far l packet out e h er =
    let h' : ℕ = header_in packet in
    let rows : List (ℕ × Bool) = front_rows limit l packet in
    let stop = rows_stop rows (header_rows far l h' ++ data_rows l h' (data_in packet) (length out)) λ z. h (e ∙ z) in
    open_refusal _ (waited l h' out) (open_code limit far l packet (length out)) l out (e ∙ sym stop) h (λ z. never waiting rows refl refl (sym e ∙ z)) er

-- a record and a packet that these rows let pass
pub front_passed : {code : ℕ} (limit : ℕ) (l : Link) (packet : List ℕ) → code ≡ first_of (front_rows limit l packet) → code ≡ done
    → (well_formed l ≡ true) × (front + shortest_plain ≤ length packet) × (length packet ≤ front + limit)
front_passed limit l packet e z =
    let rows : List (ℕ × Bool) = front_rows limit l packet in
    let zero = sym e ∙ z in
    let (low, high) = within (front + shortest_plain) (front + limit) (length packet) (clear shape rows refl zero).0 in
    (not-false (well_formed l) (clear not_record rows refl zero).0, low, high)

-- a packet of the right shape: its length, and its protocol number
shape_bounds : (limit : ℕ) (packet : List ℕ) → misshapen limit packet ≡ false
    → (outside (front + shortest_plain) (front + limit) (length packet) ≡ false) × (not (eqb (pair_at 0 packet) 0x00FD) ≡ false)
shape_bounds limit packet right = by (outside (front + shortest_plain) (front + limit) (length packet)) (not (eqb (pair_at 0 packet) 0x00FD)) right
  where
    by : (a b : Bool) → a || b ≡ false → (a ≡ false) × (b ≡ false)
    by true b e = absurd (true≢false e)
    by false b e = (refl, e)

-- its data, as a part of it
data_part : (packet : List ℕ) → take (length packet - front) (drop front packet) ≡ data_in packet
data_part packet = take_all (length packet - front) (drop front packet) (omega (arith, length-drop front packet))

-- .. it is left to its header and its data
pub open_passed : {h : ℕ} {r : Outcome} {out₁ : List ℕ} (limit far : ℕ) (l : Link) (packet out : List ℕ) → well_formed l ≡ true → misshapen limit packet ≡ false
    → h ≡ header_in packet → Gives r out₁ (data_result far l h (take (length packet - front) (drop front packet)) out)
    → Gives r out₁ (open_result limit far l packet out)
unfolding open_result open_code data_result
open_passed limit far l packet out well right eh made =
    let (size, number) = shape_bounds limit packet right in
    rw (well, size, number) (rw (eh, data_part packet) at made)

-- the number that a record answers to a header, and the rows by which
answer_rows : {j : Judged} (far : ℕ) (l : Link) (h n lent : ℕ) → j ≡ judged_header far l h n lent
    → (j.answer ≡ first_of (room_rows far l h (away_for l h) n lent)) × (j.changes ≡ changes_for l h)
unfolding judged_header header_code
answer_rows far l h n lent e = (ap (λ (j : Judged). j.answer) e, ap (λ (j : Judged). j.changes) e)

-- data refused by a row before the last
pub data_refused : {j : Judged} {r : Outcome} (far : ℕ) (l : Link) (h : ℕ) (text out : List ℕ) → j ≡ judged_header far l h (length text) (length out)
    → (j.answer ≡ waiting → ⊥) → (j.answer ≡ done → ⊥) → r ≡ (refusal j.answer l []).outcome → Gives r out (data_result far l h text out)
unfolding data_result
data_refused {j} far l h text out ej here some er =
    let rows : List (ℕ × Bool) = room_rows far l h (away_for l h) (length text) (length out) in
    let last : List (ℕ × Bool) = (protocol, off_protocol (plain_for l h text)) ∷ [] in
    let e : j.answer ≡ first_of rows = (answer_rows far l h (length text) (length out) ej).0 in
    open_refusal _ (waited l h out) (first_of (rows ++ last)) l out (e ∙ sym (rows_stop rows last λ z. some (e ∙ z))) some here er

-- data that these rows let pass: there is room, and the last row decides
pub data_passed : {j : Judged} (far : ℕ) (l : Link) (h : ℕ) (text : List ℕ) (lent : ℕ) → j ≡ judged_header far l h (length text) lent → j.answer ≡ done
    → (length text ≤ lent) × (first_of (header_rows far l h ++ data_rows l h text lent) ≡ first_of ((protocol, off_protocol (plain_for l h text)) ∷ []))
data_passed far l h text lent ej z =
    let rows : List (ℕ × Bool) = room_rows far l h (away_for l h) (length text) lent in
    let last : List (ℕ × Bool) = (protocol, off_protocol (plain_for l h text)) ∷ [] in
    let zero : first_of rows ≡ done = sym (answer_rows far l h (length text) lent ej).0 ∙ z in
    (ltb-false lent (length text) (clear room rows refl zero).0, rows_pass rows last refl zero)

-- the record with the key changes made that a header brings
abbrev pub Moved : Link → (h made : ℕ) → Link → Type 0
Moved l h made next = next ≡ renewed l (changes l.strength (start_key_in l) made (session_key_in l)) (count_of h)

moved_for : {next : Link} (made : ℕ) (l : Link) (h : ℕ) → length l.session ≡ 16 → made ≡ changes_for l h → Moved l h made next
    → (next ≡ renewed l (key_for l h) (count_of h)) × (session_key_in next ≡ key_for l h)
unfolding key_for
moved_for {next} made l h full em en =
    let is : next ≡ renewed l (key_for l h) (count_of h) = unfold key_for in en ∙ rw em in
    (is, ap session_key_in is ∙ unfold key_for in changed_back l (changes_for l h) full)

-- the box that it deciphers with
cipher_for : (lacks_a : Bool) (made : ℕ) (keyed held : Rc4) → pick (not (eqb made 0) || not lacks_a) keyed held ≡ pick lacks_a (on_done made held keyed) keyed
cipher_for true zero keyed held = refl
cipher_for true (suc n) keyed held = rw (ne_eqb (suc n) 0 (suc-ne-zero n))
cipher_for false zero keyed held = refl
cipher_for false (suc n) keyed held = rw (ne_eqb (suc n) 0 (suc-ne-zero n))

abbrev pub Freshly : (h made : ℕ) (lacks_a fresh : Bool) → Type 0
Freshly h made lacks_a fresh = (lacks_a ≡ lacks bit_a h) × (fresh ≡ (not (eqb made 0) || not lacks_a))

deciphers : {next : Link} {lacks_a fresh : Bool} (made : ℕ) (l : Link) (h : ℕ) → length l.session ≡ 16 → made ≡ changes_for l h → Moved l h made next
    → Freshly h made lacks_a fresh → cipher_in next fresh ≡ state_for l h
unfolding state_for box_for
deciphers {next} made l h full em en (ea, ef) =
    let (is, kept) = moved_for made l h full em en in
    let state : next.state ≡ l.state = ap (λ (m : Link). m.state) is in
    rw (ef, ea, kept, state, em) (cipher_for (lacks bit_a h) (changes_for l h) (key_schedule (key_for l h)) l.state)

-- data that are waited for
pub data_waits : {j : Judged} {next : Link} {r : Outcome} (far : ℕ) (l : Link) (h : ℕ) (text out : List ℕ) → length l.session ≡ 16
    → j ≡ judged_header far l h (length text) (length out) → j.answer ≡ waiting → Moved l h j.changes next → r ≡ waited_on next j.changes
    → Gives r out (data_result far l h text out)
unfolding data_result waited_on box_for
data_waits {j} {next} far l h text out full ej z en er =
    let rows : List (ℕ × Bool) = room_rows far l h (away_for l h) (length text) (length out) in
    let last : List (ℕ × Bool) = (protocol, off_protocol (plain_for l h text)) ∷ [] in
    let (answer-is, em) = answer_rows far l h (length text) (length out) ej in
    let e : first_of rows ≡ waiting = sym answer-is ∙ z in
    let code : first_of (rows ++ last) ≡ waiting = rows_stop rows last (λ q. omega (arith, q, e)) ∙ e in
    let (is, kept) = moved_for j.changes l h full em en in
    let state : next.state ≡ l.state = ap (λ (m : Link). m.state) is in
    rw code (er ∙ rw (kept, state, em, is), refl)

-- data refused by the last row, and data that are opened
module _ {j : Judged} {next : Link} {lacks_a fresh : Bool} {r : Answered Rc4 Refusal} {out₁ : List ℕ} (far : ℕ) (l : Link) (h : ℕ) (text out : List ℕ)
    (full : length l.session ≡ 16) (ej : j ≡ judged_header far l h (length text) (length out)) (z : j.answer ≡ done)
    (en : Moved l h j.changes next) (keyed : Freshly h j.changes lacks_a fresh)
    (ec : (r ≡ deciphered next fresh text) × (out₁ ≡ deciphered_out next fresh text out)) where
  abbrev plain : List ℕ
  plain = run (cipher_in next fresh) text

  abbrev left_box : Rc4
  left_box = after (cipher_in next fresh) text

  made_is : j.changes ≡ changes_for l h
  made_is = (answer_rows far l h (length text) (length out) ej).1

  last_row : carried_code plain ≡ first_of (header_rows far l h ++ data_rows l h text (length out))
  unfolding plain_for
  last_row = rw (deciphers j.changes l h full made_is en keyed) (sym (data_passed far l h text (length out) ej z).1)

  pub data_off : {e : Refusal} {handed : Outcome} → r ≡ Err e → handed ≡ (refusal protocol l []).outcome → Gives handed out₁ (data_result far l h text out)
  unfolding data_result deciphered deciphered_out
  data_off refused-is el =
      let some : carried_code plain ≡ done → ⊥ = unfold deciphered in err_only (carried_code plain) left_box (sym ec.0 ∙ refused-is) in
      let off : carried_code plain ≡ protocol = ap (λ t. first_of ((protocol, t) ∷ [])) (decided protocol (off_protocol plain) some) in
      let code : protocol ≡ first_of (header_rows far l h ++ data_rows l h text (length out)) = sym off ∙ last_row in
      let kept : out₁ ≡ out = unfold deciphered_out in ec.1 ∙ rw off in
      rw kept (open_refusal _ (waited l h out) (first_of (header_rows far l h ++ data_rows l h text (length out))) l out code (λ q. omega (arith, q)) (λ q. omega (arith, q)) el)

  pub data_opened : {left : Rc4} {after' : Link} → r ≡ Ok left → after' ≡ settled_on next left
      → Gives (record { answer = done; changes = j.changes; link = after' }) out₁ (data_result far l h text out)
  unfolding data_result plain_for deciphered deciphered_out
  data_opened {left} {after'} opened-is el =
      let (is, kept) = moved_for j.changes l h full made_is en in
      let box = deciphers j.changes l h full made_is en keyed in
      let given : (carried_code plain ≡ done) × (left_box ≡ left) = unfold deciphered in ok_only (carried_code plain) left_box (sym ec.0 ∙ opened-is) in
      let (carried, same) = given in
      let code : first_of (header_rows far l h ++ data_rows l h text (length out)) ≡ done = sym last_row ∙ carried in
      let drawn : left ≡ after (state_for l h) text = sym same ∙ rw box in
      let settled : after' ≡ link_after l h text = el ∙ rw (drawn, is) in
      rw (code, settled, made_is) (refl, ec.1 ∙ rw (carried, box))

-- a Reset-Request: octets that are none, and one that is taken
pub reset_none : {r : Outcome} {e : Refusal} (l : Link) (request : List ℕ) → well_formed l ≡ true → reset_answer request ≡ Err e
    → r ≡ (refusal shape l []).outcome → r ≡ reset_outcome l request
unfolding reset_outcome reset_code
reset_none l request h e er = rw (h, reset_shape request e) er

pub reset_taken : {identifier : ℕ} {mark : Bool} {l' : Link} (l : Link) (request : List ℕ) → well_formed l ≡ true → reset_answer request ≡ Ok identifier
    → mark ≡ by_mode l.mode false true → l' ≡ with_box l l.state mark → record { answer = done; changes = 0; link = l' } ≡ reset_outcome l request
unfolding reset_outcome reset_code
reset_taken l request h e em el =
    let rows : first_of (reset_rows request) ≡ done = reset_done request e in
    rw (h, rows, el, em) (by l.mode l.waiting (λ m. fits_unmarked l.mode l.state l.waiting m (well_box l h)))
  where
    by : (mode : Mode) (mark : Bool) → (mode ≡ Stateless → mark ≡ false)
        → ◌≡◌ {A = Outcome} (record { answer = done; changes = 0; link = with_box l l.state (by_mode mode false true) })
        (record { answer = done; changes = 0; link = with_box l l.state (by_mode mode mark true) })
    by Stateless mark e = rw (e refl)
    by Stateful mark e = refl
