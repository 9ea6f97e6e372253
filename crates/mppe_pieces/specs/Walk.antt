-- A packet opened in pieces (02, M-104). A walk is the code's own struct. `limit` is the longest plain packet, `far` the farthest distance
-- that is opened. What a record makes of a header, its rows, keys and boxes, is open's own (`mppe`).
use Rattle.std.specs.Prelude.{Bool, true, false, not, ◌&&◌, ◌||◌, List, [], ◌∷◌, ◌++◌, ℕ, ◌+◌, eqb, ltb, length, get_or, replicate}
use Rattle.answer.specs.Answer.{done, shape, room, size, protocol, not_record, waiting, pick, outside, wrong, first_of, on_done}
use Rattle.octets.specs.Octets.{pair_at, written_at}
use Rattle.rc4.specs.declared.Rc4.{Rc4}
use Rattle.rc4.specs.Cipher.{box, run, after}
use Rattle.mppe_keys.specs.Keys.{placed}
use Rattle.mppe.specs.declared.Link.{Link}
use Rattle.mppe.specs.declared.Outcome.{Outcome}
use Rattle.mppe.specs.Link.{shortest_plain, front, well_formed, off_protocol, header_in, count_of, kept_box, changes_for, key_for, state_for, waited, refusal, header_rows, judged_rows}
use Rattle.mppe_pieces.specs.declared.Walk.{Walk}
use Rattle.mppe_pieces.specs.declared.Step.{Step}

-- what a feed gives: its step, and the lent buffer after it
pub record Fed : Type 0 where
  pub step : Step
  pub buffer : List ℕ

-- a closed walk and an ended one are one thing: beside its record it holds nothing
unfoldable pub over : Link → Walk
over l =
    record {
      live = false;
      link = l;
      header = 0;
      session = replicate 16 0;
      state = box (replicate 256 0) 0 0;
      total = 0;
      fed = 0;
      first = 0;
    }

-- a call after which the walk is over, with the outcome of its record
abbrev pub over_with : Outcome → Step
over_with o = record { answer = o.answer; changes = o.changes; walk = over o.link }

-- a call that hands back a walk and reports no change: "Only a good end or a begin that answers 11 moves the link record or reports changes"
abbrev pub on_with : (code : ℕ) → Walk → Step
on_with code w = record { answer = code; changes = 0; walk = w }

-- "Begin with the four header octets, the length of the data part and the room; another header length or a data part outside 2 to" the
-- limit "is 1, and the order is that of open without 4": 7, 1, 5, 6, 10, 11, 2
abbrev pub begin_rows : (limit far : ℕ) (l : Link) (four : List ℕ) (total lent : ℕ) → List (ℕ × Bool)
begin_rows limit far l four total lent =
    ((not_record, not (well_formed l))
    ∷ (shape, wrong front four)
    ∷ (shape, not (eqb (pair_at 0 four) 0x00FD))
    ∷ (shape, outside shortest_plain limit total)
    ∷ header_rows far l (header_in four))
    ++ (room, ltb lent total) ∷ []

unfoldable pub begin_code : (limit far : ℕ) (l : Link) (four : List ℕ) (total lent : ℕ) → ℕ
begin_code limit far l four total lent = first_of (begin_rows limit far l four total lent)

-- the walk of a packet with header `h`, of which nothing is fed: the session key and the box that open would have
unfoldable pub walk_of : (l : Link) (h total : ℕ) → Walk
walk_of l h total =
    record {
      live = true;
      link = l;
      header = h;
      session = placed (key_for l h);
      state = state_for l h;
      total = total;
      fed = 0;
      first = 0;
    }

-- a begin that is refused: 11 moves the record as open's does; "a refused begin gives a closed walk"
abbrev pub unbegun : (code : ℕ) (l : Link) (h : ℕ) → Outcome
unbegun code l h = pick (eqb code waiting) (waited l h []).outcome (refusal code l []).outcome

unfoldable pub begin_step : (limit far : ℕ) (l : Link) (four : List ℕ) (total lent : ℕ) → Step
begin_step limit far l four total lent =
    let code : ℕ = begin_code limit far l four total lent in
    on_done code (on_with done (walk_of l (header_in four) total)) (over_with (unbegun code l (header_in four)))

-- "7, as on one with an ill-formed link or fields outside these limits": a walk goes on if it is live, begin would not refuse its record,
-- header and total, and no more than the total is fed
unfoldable pub goes_on : (limit far : ℕ) → Walk → Bool
goes_on limit far w =
    w.live && eqb (first_of (judged_rows limit far w.link w.header w.total)) done && not (ltb w.total w.fed)

-- octets opened and not yet written: a first one that came alone, and the piece's
unfoldable pub opened : Walk → (piece : List ℕ) → List ℕ
opened w piece = pick (eqb w.fed 1) (w.first ∷ []) [] ++ run w.state piece

-- how many octets are fed after a piece, and whether the protocol octets are not both among them
abbrev pub reached : Walk → (piece : List ℕ) → ℕ
reached w piece = w.fed + length piece

abbrev pub early : ℕ → Bool
early fed = ltb fed shortest_plain

-- "both protocol octets together, once judged (4)": by the piece that brings the second
abbrev pub judged_off : Walk → (piece : List ℕ) → Bool
judged_off w piece = early w.fed && not (early (reached w piece)) && off_protocol (opened w piece)

-- "A feed lent less than the total is 2 .. its order is 7, 2, 3, 4"; "A piece beyond the total is 3"
abbrev pub feed_rows : (limit far : ℕ) (w : Walk) (piece : List ℕ) (lent : ℕ) → List (ℕ × Bool)
feed_rows limit far w piece lent =
    (not_record, not (goes_on limit far w))
    ∷ (room, ltb lent w.total)
    ∷ (size, ltb w.total (reached w piece))
    ∷ (protocol, judged_off w piece)
    ∷ []

unfoldable pub feed_code : (limit far : ℕ) (w : Walk) (piece : List ℕ) (lent : ℕ) → ℕ
feed_code limit far w piece lent = first_of (feed_rows limit far w piece lent)

-- a walk with so many octets fed, RC4's state after them, and a first one that came alone
abbrev pub moved_on : Walk → (fed : ℕ) (state : Rc4) (first : ℕ) → Walk
moved_on w fed state first =
    record {
      live = true;
      link = w.link;
      header = w.header;
      session = w.session;
      state = state;
      total = w.total;
      fed = fed;
      first = first;
    }

-- the walk after a piece
abbrev pub walk_after : Walk → (piece : List ℕ) → Walk
walk_after w piece = moved_on w (reached w piece) (after w.state piece) (pick (early (reached w piece)) (get_or (opened w piece) 0 0) 0)

-- "A feed writes its piece opened, both protocol octets together"
abbrev pub buffer_after : Walk → (piece out : List ℕ) → List ℕ
buffer_after w piece out = pick (early (reached w piece)) out (written_at (pick (early w.fed) 0 w.fed) (opened w piece) out)

-- "A piece beyond the total is 3, .. these and a 4 close the walk"
abbrev pub closes : (code : ℕ) → Bool
closes code = eqb code size || eqb code protocol

-- what a feed gives; 2 "changes nothing", and neither does 7; "octets written by earlier pieces stay"
unfoldable pub feed_result : (limit far : ℕ) (w : Walk) (piece out : List ℕ) → Fed
feed_result limit far w piece out =
    let code : ℕ = feed_code limit far w piece (length out) in
    record {
      step = on_done code (on_with done (walk_after w piece)) (on_with code (pick (closes code) (over w.link) w));
      buffer = on_done code (buffer_after w piece out) out;
    }

-- the record that an end leaves: the walk's session key, the header's count, and of a stateful one the walk's box
abbrev pub link_left : Walk → Link
link_left w =
    record {
      strength = w.link.strength;
      mode = w.link.mode;
      start = w.link.start;
      session = w.session;
      count = count_of w.header;
      state = kept_box w.link w.state;
      waiting = false;
    }

-- 7, also where that record would be ill formed (house); then "an end before it is 1"
abbrev pub end_rows : (limit far : ℕ) → Walk → List (ℕ × Bool)
end_rows limit far w =
    (not_record, not (goes_on limit far w)) ∷ (not_record, not (well_formed (link_left w))) ∷ (shape, ltb w.fed w.total) ∷ []

unfoldable pub end_code : (limit far : ℕ) → Walk → ℕ
end_code limit far w = first_of (end_rows limit far w)

-- a good end hands back that record and reports the header's key changes; an early one closes the walk
unfoldable pub end_step : (limit far : ℕ) → Walk → Step
end_step limit far w =
    let code : ℕ = end_code limit far w in
    on_done code (over_with (record { answer = done; changes = changes_for w.link w.header; link = link_left w }))
    (on_with code (pick (eqb code shape) (over w.link) w))
