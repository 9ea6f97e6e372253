-- How changes add up: the laws that auditors ask for (02, M-112), in the request's order, its words above each. They are about the definitions that
-- the contracts of public calls are equations with: `changes`, `reduced` and `rc4` of crates/mppe_keys/specs/Keys.antt, `run` and `after` of
-- crates/rc4/specs/Cipher.antt, the link record, seal and open of crates/mppe/specs/Link.antt. Each is stated once for all strengths, which enter by
-- their key length alone. What is defined here says only what the laws are about. proofs/Laws.antt proves each, under the law's name in small letters.
use Rattle.std.specs.Prelude.{◌≡◌, true, ℕ, ◌+◌, ◌-◌, ◌/◌, ◌%◌, ◌≤◌, length}
use mathlib.Core.List.{List, [], ◌∷◌, ◌++◌, flatten}
use Rattle.answer.specs.Answer.{done, waiting, on_done}
use Rattle.rc4.specs.declared.Rc4.{Rc4}
use Rattle.rc4.specs.Cipher.{key_schedule, run, after}
use Rattle.mppe_keys.specs.declared.Strength.{Strength}
use Rattle.mppe_keys.specs.declared.Mode.TheVariants.{Stateless, Stateful}
use Rattle.mppe_keys.specs.Keys.{key_length, reduced, rc4, changes, placed}
use Rattle.mppe_keys.specs.Answers.{placed_changes, placed_cipher}
use Rattle.mppe.specs.declared.Link.{Link}
use Rattle.mppe.specs.Link.{counts, well_formed, start_key_in, session_key_in, renewed, with_box, kept_box, header_in, changes_over, away_for, Result, finished, seal_result, open_result}

-- 1. "m key changes and then n are m + n, for every strength ..": from every start key and every session key
abbrev pub KeyChangesAdd : Type 0
KeyChangesAdd = (s : Strength) (start session : List ℕ) (m n : ℕ)
    → changes s start n (changes s start m session) ≡ changes s start (m + n) session

-- a link record after n key changes: its session key, changed n times, in its places; in stateful mode also its box, since "each change keys the box
-- afresh with the new session key" (02, M-103); all else as it was
unfoldable pub changed : ℕ → Link → Link
changed n l =
    let key : List ℕ = changes l.strength (start_key_in l) n (session_key_in l) in
    with_box (renewed l key l.count) (kept_box l (on_done n l.state (key_schedule key))) l.waiting

-- ".. and link": every record whose session key has its 16 places, well formed or not
abbrev pub RecordChangesAdd : Type 0
RecordChangesAdd = (l : Link) (m n : ℕ) → length l.session ≡ 16 → changed n (changed m l) ≡ changed (m + n) l

-- What that says of the count. Key changes come with counts: so many do the next d bring to a record ..
abbrev pub brought_by : ℕ → Link → ℕ
brought_by d l = changes_over l.mode l.count d

-- .. one each in stateless mode ..
abbrev pub StatelessBrought : Type 0
StatelessBrought = (l : Link) (d : ℕ) → l.mode ≡ Stateless → brought_by d l ≡ d

-- .. and in stateful mode one for each that ends in 0xFF
abbrev pub StatefulBrought : Type 0
StatefulBrought = (l : Link) (d : ℕ) → l.mode ≡ Stateful → brought_by d l ≡ (l.count + d + 1) / 256 - (l.count + 1) / 256

-- a record with another count in place of its own
abbrev pub with_count : Link → ℕ → Link
with_count l count =
    record { strength = l.strength; mode = l.mode; start = l.start; session = l.session; count = count; state = l.state; waiting = l.waiting }

-- a record moved on by d counts: after the key changes that they bring, its count d further, which wraps at 4,096
unfoldable pub moved : ℕ → Link → Link
moved d l = with_count (changed (brought_by d l) l) ((l.count + d) % counts)

-- d counts and then e are d + e: in the key changes that they bring ..
abbrev pub BroughtAdd : Type 0
BroughtAdd = (l : Link) (d e : ℕ) → brought_by d l + brought_by e (moved d l) ≡ brought_by (d + e) l

-- .. and in the record that they leave
abbrev pub RecordMovesAdd : Type 0
RecordMovesAdd = (l : Link) (d e : ℕ) → length l.session ≡ 16 → moved e (moved d l) ≡ moved (d + e) l

-- a record that is well formed stays so
abbrev pub MovedWell : Type 0
MovedWell = (l : Link) (d : ℕ) → well_formed l ≡ true → well_formed (moved d l) ≡ true

-- a call has moved a record on by d counts: it reports the key changes that they bring, and hands back the moved record, with the box and the mark
-- that its packet leaves
abbrev pub MovedBy : ℕ → Link → Result → Type 0
MovedBy d l r = (r.outcome.changes ≡ brought_by d l) × (r.outcome.link ≡ with_box (moved d l) r.outcome.link.state r.outcome.link.waiting)

-- This is what the calls do. A seal moves its record on by one count ..
abbrev pub SealMoves : Type 0
SealMoves = (limit : ℕ) (l : Link) (plain out : List ℕ) → (seal_result limit l plain out).outcome.answer ≡ done → MovedBy 1 l (seal_result limit l plain out)

-- .. an open that answers 0 by the distance to its packet's count ..
abbrev pub OpenMoves : Type 0
OpenMoves = (limit far : ℕ) (l : Link) (packet out : List ℕ) → (open_result limit far l packet out).outcome.answer ≡ done
    → MovedBy (away_for l (header_in packet)) l (open_result limit far l packet out)

-- .. and so does one that answers 11, which leaves the box of the moved record, and the mark set
abbrev pub WaitMoves : Type 0
WaitMoves = (limit far : ℕ) (l : Link) (packet out : List ℕ) → (open_result limit far l packet out).outcome.answer ≡ waiting
    → MovedBy (away_for l (header_in packet)) l (open_result limit far l packet out)
    × ((open_result limit far l packet out).outcome.link.state ≡ (moved (away_for l (header_in packet)) l).state)
    × ((open_result limit far l packet out).outcome.link.waiting ≡ true)

-- 2. "no change is the identity": on keys ..
abbrev pub NoKeyChange : Type 0
NoKeyChange = (s : Strength) (start session : List ℕ) → changes s start 0 session ≡ session

-- .. and on every well-formed record. On others it is none: a key is put into its places with zeros behind it, so that octets which stand there
-- are cleared (`not_the_identity` in proofs/Example.antt)
abbrev pub NoRecordChange : Type 0
NoRecordChange = (l : Link) → well_formed l ≡ true → length l.session ≡ 16 → changed 0 l ≡ l

-- .. which no count moves
abbrev pub NoMove : Type 0
NoMove = (l : Link) → well_formed l ≡ true → length l.session ≡ 16 → moved 0 l ≡ l

-- 3. "reducing twice is reducing once", for keys of every length
abbrev pub ReducingTwice : Type 0
ReducingTwice = (s : Strength) (key : List ℕ) → reduced s (reduced s key) ≡ reduced s key

-- 4. "RC4 with one key applied twice to a text gives the text", for keys of every length ..
abbrev pub KeyTwice : Type 0
KeyTwice = (key text : List ℕ) → rc4 key (rc4 key text) ≡ text

-- .. and for every box, also one that no key gives
abbrev pub BoxTwice : Type 0
BoxTwice = (box : Rc4) (text : List ℕ) → run box (run box text) ≡ text

-- 5. "a text cut anywhere and run on one box gives the uncut result" ..
abbrev pub CutResult : Type 0
CutResult = (box : Rc4) (front rest : List ℕ) → run box front ++ run (after box front) rest ≡ run box (front ++ rest)

-- .. and leaves the uncut box
abbrev pub CutBox : Type 0
CutBox = (box : Rc4) (front rest : List ℕ) → after (after box front) rest ≡ after box (front ++ rest)

-- any number of pieces, each run on the box that the one before it left ..
unfoldable pub run_each : Rc4 → List (List ℕ) → List (List ℕ)
run_each box [] = []
run_each box (piece ∷ pieces) = run box piece ∷ run_each (after box piece) pieces

-- .. and the box that the last one leaves
unfoldable pub after_each : Rc4 → List (List ℕ) → Rc4
after_each box [] = box
after_each box (piece ∷ pieces) = after_each (after box piece) pieces

-- they give the uncut result ..
abbrev pub PiecesResult : Type 0
PiecesResult = (box : Rc4) (pieces : List (List ℕ)) → flatten (run_each box pieces) ≡ run box (flatten pieces)

-- .. and leave the uncut box
abbrev pub PiecesBox : Type 0
PiecesBox = (box : Rc4) (pieces : List (List ℕ)) → after_each box pieces ≡ after box (flatten pieces)

-- 6. Beyond the request. Packet p is handed to open with a record, packet q with the record that this hands back, and q alone with the first record;
-- `far` is the farthest distance that is opened, 2,048.
module _ (limit far : ℕ) (l : Link) (p q a b : List ℕ) where
  abbrev pub first : Result
  first = open_result limit far l p a

  abbrev pub second : Result
  second = open_result limit far first.outcome.link q b

  abbrev pub alone : Result
  alone = open_result limit far l q b

-- if q is opened both times, the key changes reported for p and then q are together those reported for q alone, whether p was opened, waited for or
-- refused; and q opens to the same octets and leaves the same record
abbrev pub ReportsAdd : Type 0
ReportsAdd = (limit far : ℕ) (l : Link) (p q a b : List ℕ) → far + far ≤ counts → length l.session ≡ 16
    → (second limit far l p q a b).outcome.answer ≡ done → (alone limit far l p q a b).outcome.answer ≡ done
    → alone limit far l p q a b
    ≡ finished ((first limit far l p q a b).outcome.changes + (second limit far l p q a b).outcome.changes)
    (second limit far l p q a b).outcome.link (second limit far l p q a b).buffer

-- no octet behind the key length enters the key schedule ..
abbrev pub ScheduleAlone : Type 0
ScheduleAlone = (s : Strength) (session rest : List ℕ) → length session ≡ key_length s → placed_cipher s (session ++ rest) ≡ key_schedule session

-- .. or a key change
abbrev pub ChangesAlone : Type 0
ChangesAlone = (s : Strength) (start rest session rest' : List ℕ) (n : ℕ) → length start ≡ key_length s → length session ≡ key_length s
    → placed_changes s (start ++ rest) (session ++ rest') n ≡ placed (changes s start n session)
