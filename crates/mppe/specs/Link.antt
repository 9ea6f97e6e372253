-- The link record, and what new link, seal, open and a Reset-Request give in both modes (01, "Keys" and "Packets and counts"; 02, M-103;
-- RFC 3078, 3, 6 and 7). A record is the code's own struct. `limit` is the longest plain packet, `far` the farthest distance that is opened.
use Rattle.std.specs.Prelude.{Bool, true, false, not, ◌&&◌, ◌||◌, List, [], ◌∷◌, ◌++◌, ℕ, zero, suc, ◌+◌, ◌-◌, ◌/◌, ◌%◌, eqb, ltb, length, take, drop, replicate}
use Rattle.answer.specs.Answer.{done, shape, room, size, protocol, flags, repeat, not_record, late, waiting, pick, outside, wrong, first_of, on_done}
use Rattle.octets.specs.Octets.{big_endian, pair_at, written}
use Rattle.rc4.specs.declared.Rc4.{Rc4}
use Rattle.rc4.specs.Cipher.{box, permutation, unkeyed, is_unkeyed, key_schedule, run, after}
use Rattle.mppe_keys.specs.declared.Strength.{Strength}
use Rattle.mppe_keys.specs.declared.Mode.{Mode}
use Rattle.mppe_keys.specs.Keys.{key_length, by_mode, head_of, begins, initial_key, changes, placed}
use Rattle.ccp.specs.Reset.{reset_rows}
use Rattle.mppe.specs.declared.Link.{Link}
use Rattle.mppe.specs.declared.NewLink.{NewLink}
use Rattle.mppe.specs.declared.Outcome.{Outcome}
use Rattle.mppe.specs.declared.Judged.{Judged}

-- "Plain packet (two protocol octets and payload): 2 to" 31,998 (02, M-110)
abbrev pub shortest_plain : ℕ
shortest_plain = 2

abbrev pub longest_plain : ℕ
longest_plain = 31998

-- "00 FD, two header octets, data": the octets before the data
abbrev pub front : ℕ
front = 4

-- "12 bits of count"
abbrev pub counts : ℕ
counts = 4096

-- all octets are 0
unfoldable pub zeros : List ℕ → Bool
zeros [] = true
zeros (x ∷ xs) = eqb x 0 && zeros xs

-- "well formed needs the box a permutation, and in stateless mode 0 to 255 in order, indices 0, mark off"
unfoldable pub box_fits : Mode → (state : Rc4) (mark : Bool) → Bool
box_fits mode state mark = permutation state.cells && by_mode mode (is_unkeyed state && not mark) true

-- "Well formed: count at most 4,095; at 40 and 56 bits the last eight places of both keys are 0; the session key begins as
-- reduce leaves it." At 128 bits no place is left behind the key, and reduce leaves every beginning.
unfoldable pub well_formed : Link → Bool
well_formed l =
    ltb l.count counts
    && zeros (drop (key_length l.strength) l.start)
    && zeros (drop (key_length l.strength) l.session)
    && begins (head_of l.strength) l.session
    && box_fits l.mode l.state l.waiting

-- the keys in their places
abbrev pub start_key_in : Link → List ℕ
start_key_in l = take (key_length l.strength) l.start

abbrev pub session_key_in : Link → List ℕ
session_key_in l = take (key_length l.strength) l.session

-- a record of its parts
abbrev pub link_of : (s : Strength) (mode : Mode) (start session : List ℕ) (count : ℕ) (state : Rc4) (mark : Bool) → Link
link_of s mode start session count state mark =
    record { strength = s; mode = mode; start = placed start; session = placed session; count = count; state = state; waiting = mark }

-- a record with another box and mark in place of its own
abbrev pub with_box : Link → (state : Rc4) (mark : Bool) → Link
with_box l state mark =
    record { strength = l.strength; mode = l.mode; start = l.start; session = l.session; count = l.count; state = state; waiting = mark }

-- a record with another session key and count in place of its own
abbrev pub renewed : Link → List ℕ → ℕ → Link
renewed l session count =
    record { strength = l.strength; mode = l.mode; start = l.start; session = placed session; count = count; state = l.state; waiting = l.waiting }

-- "Start key: 16 at 128 bits, else 8"; "New link: 3"
abbrev pub new_link_code : Strength → List ℕ → ℕ
new_link_code s start = first_of ((size, wrong (key_length s) start) ∷ [])

-- "A new link has count 4,095 (house), so the first packet carries 0"
abbrev pub new_count : ℕ
new_count = 4095

-- "A new link takes the mode; a stateful one has that box and the mark set, a refused one the strength and mode asked for and all else 0"
unfoldable pub no_link : Strength → Mode → Link
no_link s mode =
    record {
      strength = s;
      mode = mode;
      start = replicate 16 0;
      session = replicate 16 0;
      count = 0;
      state = box (replicate 256 0) 0 0;
      waiting = false;
    }

unfoldable pub new_link : Strength → Mode → List ℕ → NewLink
new_link s mode start =
    record {
      answer = new_link_code s start;
      link = on_done (new_link_code s start) (link_of s mode start (initial_key s start) new_count unkeyed (by_mode mode false true)) (no_link s mode);
    }

-- "the plain protocol number is outside 0x0021 to 0x00FA"
abbrev pub off_protocol : List ℕ → Bool
off_protocol plain = outside 0x0021 0x00FA (pair_at 0 plain)

-- "Header bits from the top: A, B, C, D, then 12 bits of count"
abbrev pub bit_a : ℕ
bit_a = 0x8000

abbrev pub bit_d : ℕ
bit_d = 0x1000

-- "A = D = 1, B = C = 0", and A = 0 where RC4 is not keyed afresh
abbrev pub header : Bool → ℕ → List ℕ
header fresh count = big_endian 2 (pick fresh bit_a 0 + bit_d + count)

-- "Sealed: 00 FD, two header octets, data": the plain packet run on a box, with A set where that is keyed afresh
unfoldable pub packet_on : (fresh : Bool) (state : Rc4) (count : ℕ) (plain : List ℕ) → List ℕ
packet_on fresh state count plain = 0x00 ∷ 0xFD ∷ header fresh count ++ run state plain

-- "RC4 freshly keyed with the session key over the plain packet"
abbrev pub sealed_packet : (session : List ℕ) (count : ℕ) (plain : List ℕ) → List ℕ
sealed_packet session count plain = packet_on true (key_schedule session) count plain

-- the number of a packet's two header octets, and the data behind them
abbrev pub header_in : List ℕ → ℕ
header_in packet = pair_at 2 packet

abbrev pub data_in : List ℕ → List ℕ
data_in packet = drop front packet

-- the count that a header carries
abbrev pub count_of : ℕ → ℕ
count_of h = h % counts

-- a bit of a header is 0
abbrev pub lacks : ℕ → ℕ → Bool
lacks bit h = eqb (h / bit % 2) 0

-- "distance = (arrived count - last count) mod 4,096"
abbrev pub distance : ℕ → ℕ → ℕ
distance last arrived = (arrived + counts - last) % counts

-- "Distances 1 to 2,048 are opened" (02, M-101)
abbrev pub farthest : ℕ
farthest = 2048

-- how many of the d counts after `last` end in 0xFF
unfoldable pub endings : (last d : ℕ) → ℕ
endings last zero = 0
endings last (suc d) = endings last d + pick (eqb ((last + suc d) % 256) 255) 1 0

-- how many key changes the d counts after `last` bring: one each, or "as many changes as counts ending in 0xFF lie after the last count
-- up to the arrived one"
unfoldable pub changes_over : Mode → (last d : ℕ) → ℕ
changes_over mode last d = by_mode mode d (endings last d)

-- the box that a record keeps when another was drawn from: "draws on across packets", and in stateless mode its own
abbrev pub kept_box : Link → Rc4 → Rc4
kept_box l drawn = by_mode l.mode l.state drawn

-- what a call gives: its outcome, and the lent buffer after it
pub record Result : Type 0 where
  pub outcome : Outcome
  pub buffer : List ℕ

-- a call that answers 0 after this many key changes
abbrev pub finished : ℕ → Link → List ℕ → Result
finished changed l buffer = record { outcome = record { answer = done; changes = changed; link = l }; buffer = buffer }

-- "answer 11, waiting: no octet written, the changes made and reported"
abbrev pub unopened : ℕ → Link → List ℕ → Result
unopened changed l buffer = record { outcome = record { answer = waiting; changes = changed; link = l }; buffer = buffer }

-- "Refusals 1 to 9 hand back the record given and change no lent octet", and so does 10; "on a refusal it is 0"
abbrev pub refusal : ℕ → Link → List ℕ → Result
refusal code l buffer = record { outcome = record { answer = code; changes = 0; link = l }; buffer = buffer }

-- the rows of seal's table that the packet and the length of the lent buffer decide: 3, 4, 2
abbrev pub plain_rows : ℕ → List ℕ → ℕ → List (ℕ × Bool)
plain_rows limit plain lent =
    (size, outside shortest_plain limit (length plain)) ∷ (protocol, off_protocol plain) ∷ (room, ltb lent (front + length plain)) ∷ []

-- "Seal: 7, 3, 4, 2"
unfoldable pub seal_code : ℕ → Link → List ℕ → ℕ → ℕ
seal_code limit l plain lent = first_of ((not_record, not (well_formed l)) ∷ plain_rows limit plain lent)

-- "Sender: count + 1 mod 4,096, one key change"; a stateful one "counts as before .. and changes key before a packet whose count ends in
-- 0xFF"
abbrev pub next_count : Link → ℕ
next_count l = (l.count + 1) % counts

abbrev pub next_changes : Link → ℕ
next_changes l = changes_over l.mode l.count 1

unfoldable pub next_key : Link → List ℕ
next_key l = changes l.strength (start_key_in l) (next_changes l) (session_key_in l)

-- "It keys RC4 afresh, with A set, exactly on those and where its mark is set"
abbrev pub keys_afresh : Link → Bool
keys_afresh l = not (eqb (next_changes l) 0) || l.waiting

unfoldable pub next_box : Link → Rc4
next_box l = pick (keys_afresh l) (key_schedule (next_key l)) l.state

-- what seal gives; ".. and clears it"
unfoldable pub seal_result : (limit : ℕ) (l : Link) (plain out : List ℕ) → Result
seal_result limit l plain out =
    let code : ℕ = seal_code limit l plain (length out) in
    on_done code
    (finished (next_changes l) (with_box (renewed l (next_key l) (next_count l)) (kept_box l (after (next_box l) plain)) false)
    (written (packet_on (keys_afresh l) (next_box l) (next_count l) plain) out))
    (refusal code l out)

-- what a record makes of a header: how far it is from the last one, the key changes, the session key after them ..
abbrev pub away_for : Link → ℕ → ℕ
away_for l h = distance l.count (count_of h)

abbrev pub changes_for : Link → ℕ → ℕ
changes_for l h = changes_over l.mode l.count (away_for l h)

unfoldable pub key_for : Link → ℕ → List ℕ
key_for l h = changes l.strength (start_key_in l) (changes_for l h) (session_key_in l)

-- .. and "the box it then holds": "Each change keys the box afresh with the new session key"
unfoldable pub box_for : Link → ℕ → Rc4
box_for l h = on_done (changes_for l h) l.state (key_schedule (key_for l h))

-- "It opens with a box keyed afresh if A is set .., else with the box it then holds if the distance is 1 and it isn't waiting"
abbrev pub opens_by : (lacks_a : Bool) (away : ℕ) (mark : Bool) → Bool
opens_by lacks_a away mark = not lacks_a || (eqb away 1 && not mark)

abbrev pub opens : Link → ℕ → Bool
opens l h = opens_by (lacks bit_a h) (away_for l h) l.waiting

unfoldable pub state_for : Link → ℕ → Rc4
state_for l h = pick (lacks bit_a h) (box_for l h) (key_schedule (key_for l h))

unfoldable pub plain_for : Link → ℕ → List ℕ → List ℕ
plain_for l h text = run (state_for l h) text

-- "then RC4, then last count = arrived"; "which ends the waiting"
abbrev pub link_after : Link → ℕ → List ℕ → Link
link_after l h text = with_box (renewed l (key_for l h) (count_of h)) (kept_box l (after (state_for l h) text)) false

-- "otherwise answer 11, .. count the arrived one, mark set"
abbrev pub waited : Link → ℕ → List ℕ → Result
waited l h buffer = unopened (changes_for l h) (with_box (renewed l (key_for l h) (count_of h)) (box_for l h) true) buffer

-- the rows of open's table: those that the record and the packet's shape decide, 7, 1, with two ways to have a wrong shape ..
abbrev pub front_rows : ℕ → Link → List ℕ → List (ℕ × Bool)
front_rows limit l packet =
    (not_record, not (well_formed l))
    ∷ (shape, outside (front + shortest_plain) (front + limit) (length packet))
    ∷ (shape, not (eqb (pair_at 0 packet) 0x00FD))
    ∷ []

-- .. those that the record and the header decide, 5, 6, 10, 11: "Flag refusal 5 here tests D only", "2,049 to 4,095 are refused with 10,
-- late, tested right after 6" ..
abbrev pub header_rows : ℕ → Link → ℕ → List (ℕ × Bool)
header_rows far l h =
    (flags, by_mode l.mode (lacks bit_a h) false)
    ∷ (flags, lacks bit_d h)
    ∷ (repeat, eqb (away_for l h) 0)
    ∷ (late, ltb far (away_for l h))
    ∷ (waiting, not (opens l h))
    ∷ []

-- .. and those for which the data are wanted, 2, 4
abbrev pub data_rows : Link → ℕ → List ℕ → ℕ → List (ℕ × Bool)
data_rows l h text lent = (room, ltb lent (length text)) ∷ (protocol, off_protocol (plain_for l h text)) ∷ []

-- "The order of open is then 7, 1, 5, 6, 10, 11, 2, 4"
abbrev pub open_rows : (limit far : ℕ) → Link → List ℕ → ℕ → List (ℕ × Bool)
open_rows limit far l packet lent =
    front_rows limit l packet ++ header_rows far l (header_in packet) ++ data_rows l (header_in packet) (data_in packet) lent

unfoldable pub open_code : (limit far : ℕ) → Link → List ℕ → ℕ → ℕ
open_code limit far l packet lent = first_of (open_rows limit far l packet lent)

-- what open gives for data behind a header, by its number
abbrev pub opened_by : (code : ℕ) (l : Link) (h : ℕ) (text out : List ℕ) → Result
opened_by code l h text out =
    on_done code (finished (changes_for l h) (link_after l h text) (written (plain_for l h text) out))
    (pick (eqb code waiting) (waited l h out) (refusal code l out))

-- what open gives
unfoldable pub open_result : (limit far : ℕ) (l : Link) (packet out : List ℕ) → Result
open_result limit far l packet out = opened_by (open_code limit far l packet (length out)) l (header_in packet) (data_in packet) out

-- what a record says of a header and the length of the data behind it, before these are there: open's order as far as 11, and the key
-- changes that the header's count brings (02, M-104)
abbrev pub judged_rows : (limit far : ℕ) → Link → (h n : ℕ) → List (ℕ × Bool)
judged_rows limit far l h n = (not_record, not (well_formed l)) ∷ (shape, outside shortest_plain limit n) ∷ header_rows far l h

unfoldable pub judged : (limit far : ℕ) → Link → (h n : ℕ) → Judged
judged limit far l h n = record { answer = first_of (judged_rows limit far l h n); changes = pick (well_formed l) (changes_for l h) 0 }

-- "a Reset-Request .. sets a stateful sender's mark and leaves a stateless record as it is, answer 0; 7 comes before 1"
unfoldable pub reset_code : Link → List ℕ → ℕ
reset_code l request = first_of ((not_record, not (well_formed l)) ∷ reset_rows request)

unfoldable pub reset_outcome : Link → List ℕ → Outcome
reset_outcome l request =
    record {
      answer = reset_code l request;
      changes = 0;
      link = on_done (reset_code l request) (with_box l l.state (by_mode l.mode l.waiting true)) l;
    }
