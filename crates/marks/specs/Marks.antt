-- Marks beside a tape, in the order and words of 02, M-111. `k` is the largest number of groups of a length on tape, `limit` the longest plain
-- packet, `far` the farthest distance that is opened.
use Rattle.std.specs.Prelude.{Bool, true, false, not, List, [], ◌∷◌, ◌++◌, ℕ, suc, ◌+◌, ◌-◌, ◌%◌, eqb, ltb, length, take, drop, get_or, replicate, Result}
use Rattle.answer.specs.declared.Refusal.{Refusal}
use Rattle.answer.specs.Answer.{done, room, size, not_record, pick, wrong, first_of, on_done, result_of}
use Rattle.octets.specs.Octets.{big_endian, from_big_endian, written, equal}
use Rattle.mppe_keys.specs.declared.Strength.TheVariants.{Bits40}
use Rattle.mppe_keys.specs.declared.Mode.TheVariants.{Stateless}
use Rattle.mppe_keys.specs.Keys.{by_mode}
use Rattle.mppe.specs.declared.Link.{Link}
use Rattle.mppe.specs.declared.Outcome.{Outcome}
use Rattle.mppe.specs.Link.{front, well_formed, no_link, open_result}
use Rattle.mppe_record.specs.Record.{no_strength, front_octets, stateless_in}
use Rattle.tape.specs.Tape.{record_size, contents}
use Rattle.marks.specs.declared.Mark.{Mark}
use Rattle.marks.specs.declared.Checked.{Checked}

-- "after each 256th opened packet"
abbrev pub every : ℕ
every = 256

-- "how many were opened, the tape offset that follows and the link record"
abbrev pub mark_of : (opened offset : ℕ) (link : Link) → Mark
mark_of opened offset link = record { opened = opened; offset = offset; link = link }

-- "A mark is 51 octets, numbers highest octet first: opened 8, offset 8", and then the first octets of the link record: "strength in bits 1,
-- start key 16, session key 16, last count 2"
abbrev pub mark_length : ℕ
mark_length = 51

unfoldable pub mark_octets : Mark → List ℕ
mark_octets m = big_endian 8 m.opened ++ (big_endian 8 m.offset ++ front_octets m.link)

-- a list of marks, one behind the other
unfoldable pub marks_octets : List Mark → List ℕ
marks_octets [] = []
marks_octets (m ∷ ms) = mark_octets m ++ marks_octets ms

-- the mark in 51 octets
unfoldable pub mark_in : List ℕ → Mark
mark_in octets = mark_of (from_big_endian (take 8 octets)) (from_big_endian (take 8 (drop 8 octets))) (stateless_in (drop 16 octets))

-- "another length is 3, then a wrong strength or an ill-formed record 7"
abbrev pub mark_rows : List ℕ → List (ℕ × Bool)
mark_rows octets =
    (size, wrong mark_length octets)
    ∷ (not_record, no_strength (get_or octets 16 0))
    ∷ (not_record, not (well_formed (mark_in octets).link))
    ∷ []

-- of octets that are refused: "each with 40 bits, stateless, all else 0"
abbrev pub no_mark : Mark
no_mark = mark_of 0 0 (no_link Bits40 Stateless)

-- "A call reads a mark"
unfoldable pub mark_read : List ℕ → Result Mark Refusal
mark_read octets = result_of (first_of (mark_rows octets)) (mark_in octets)

-- what opening a packet "with room lent" gives: the outcome, the plain packet, empty where it is refused, and the offset behind its record
pub record Opened : Type 0 where
  pub outcome : Outcome
  pub plain : List ℕ
  pub offset : ℕ

-- a walk from the start: no packet opened, "offset, 1 at first"
abbrev pub start_at : Link → Mark
start_at start = mark_of 0 1 start

-- how many marks the octets of a list hold from the first on
unfoldable pub agreeing : List Mark → (octets : List ℕ) → ℕ
agreeing [] octets = 0
agreeing (m ∷ ms) octets = pick (equal (mark_octets m) (take mark_length octets)) (suc (agreeing ms (drop mark_length octets))) 0

-- of a check that is refused: a no, and none
abbrev pub unchecked : Checked
unchecked = record { yes = false; agreeing = 0 }

module _ (k limit far : ℕ) where
  -- room for just the plain packet: any larger room gives the same
  unfoldable pub opened : Mark → (packet : List ℕ) → Opened
  opened m packet =
      let r = open_result limit far m.link packet (replicate (length packet - front) 0) in
      record {
        outcome = r.outcome;
        plain = on_done r.outcome.answer r.buffer [];
        offset = m.offset + record_size k (length packet);
      }

  -- what a walk holds behind a packet: one more opened where that answered 0, the offset that follows, and the record that it left
  unfoldable pub onward : Mark → (packet : List ℕ) → Mark
  onward m packet =
      let o : Opened = opened m packet in
      mark_of (on_done o.outcome.answer (suc m.opened) m.opened) o.offset o.outcome.link

  -- a walk over packets: what opening each in turn gives, and what it holds behind the last
  unfoldable pub walk : Mark → List (List ℕ) → List Opened
  walk m [] = []
  walk m (p ∷ ps) = opened m p ∷ walk (onward m p) ps

  unfoldable pub reached : Mark → List (List ℕ) → Mark
  reached m [] = m
  reached m (p ∷ ps) = reached (onward m p) ps

  -- the mark that is kept behind a packet: "after each 256th opened packet", so none behind one that is refused
  unfoldable pub kept : Mark → (packet : List ℕ) → List Mark
  kept m packet =
      let next : Mark = onward m packet in
      on_done (opened m packet).outcome.answer (pick (eqb (next.opened % every) 0) (next ∷ []) []) []

  unfoldable pub marks_from : Mark → List (List ℕ) → List Mark
  marks_from m [] = []
  marks_from m (p ∷ ps) = kept m p ++ marks_from (onward m p) ps

  -- "the marks that a walk from the start gives"
  unfoldable pub marks_of : (start : Link) (tape : List ℕ) → List Mark
  marks_of start tape = marks_from (start_at start) (contents k (front + limit) tape).packets

  -- "A start record ill formed or stateful is 7; then a faulty tape gives its own refusal"
  abbrev pub walk_rows : (start : Link) (tape : List ℕ) → List (ℕ × Bool)
  walk_rows start tape =
      let code : ℕ = (contents k (front + limit) tape).answer in
      (not_record, not (well_formed start)) ∷ (not_record, by_mode start.mode false true) ∷ (code, not (eqb code done)) ∷ []

  -- "then, in writing, too little room is 2"
  unfoldable pub write_code : (start : Link) (tape out : List ℕ) → ℕ
  write_code start tape out = first_of (walk_rows start tape ++ ((room, ltb (length out) (length (marks_octets (marks_of start tape)))) ∷ []))

  -- "One call writes the list": how many octets it wrote, or its refusal, and the lent buffer after it
  unfoldable pub write_answer : (start : Link) (tape out : List ℕ) → Result ℕ Refusal
  write_answer start tape out = result_of (write_code start tape out) (length (marks_octets (marks_of start tape)))

  unfoldable pub write_out : (start : Link) (tape out : List ℕ) → List ℕ
  write_out start tape out = on_done (write_code start tape out) (written (marks_octets (marks_of start tape)) out) out

  -- "A check takes start record, tape and marks and says yes exactly when they are the marks that a walk from the start gives"; and how many
  -- of them are, from the first on
  unfoldable pub checked : (start : Link) (tape marks : List ℕ) → Result Checked Refusal
  checked start tape marks =
      result_of (first_of (walk_rows start tape)) (record { yes = equal (marks_octets (marks_of start tape)) marks; agreeing = agreeing (marks_of start tape) marks })
