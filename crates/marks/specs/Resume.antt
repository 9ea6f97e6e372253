-- The claim of 02, M-111: "Opening on from a checked mark with room lent gives the same packets, refusals and end record as the whole walk
-- after that point." First in terms of lists of packets, then of the calls.
use Rattle.std.specs.Prelude.{◌≡◌, true, List, [], ◌∷◌, ◌++◌, ℕ, suc, ◌+◌, ◌*◌, ◌^◌, ◌<◌, ◌≤◌, length, take, drop, replicate, Ok}
use Rattle.answer.specs.Answer.{value_of}
use Rattle.octets.specs.Octets.{Octets}
use Rattle.mppe.specs.declared.Link.{Link}
use Rattle.mppe.specs.Link.{front}
use Rattle.mppe_record.proofs.Laws.{Sized}
use Rattle.tape.specs.Tape.{tape_of, read_from, contents, holding}
use Rattle.tape.specs.Replay.{Step, held, at_end, replay}
use Rattle.marks.specs.declared.Mark.{Mark}
use Rattle.marks.specs.Marks.{every, mark_length, start_at, mark_read, Opened, walk, reached, unchecked, checked}

-- steps of a replay that show what opening packets in turn gives: the outcome, the plain packet in front of the room, and the offset
unfoldable pub Shows : List Opened → List Step → Type 0
Shows [] [] = Unit {0}
Shows [] (s ∷ steps) = ⊥
Shows (o ∷ os) [] = ⊥
Shows (o ∷ os) (s ∷ steps) =
    (s.result.outcome ≡ o.outcome) × (take (length o.plain) s.result.buffer ≡ o.plain) × (s.offset ≡ o.offset) × Shows os steps

-- .. and behind them n steps at the tape's end, with the end record
unfoldable pub ShowsTo : (end : Mark) (n : ℕ) → List Opened → List Step → Type 0
ShowsTo end n os steps =
    (shown : List Step) × (room : List ℕ) × Shows os shown × (steps ≡ shown ++ replicate n (at_end (held end.link room) end.offset))

-- the octets of the mark with this number, from 0 on, in a list
abbrev pub mark_at : (i : ℕ) (marks : List ℕ) → List ℕ
mark_at i marks = take mark_length (drop (mark_length * i) marks)

module _ (k limit far : ℕ) where
  -- what holds at a mark of a tape
  pub record Resumes (start : Link) (tape : List ℕ) (m : Mark) : Type 0 where
    -- the tape's packets before it and behind it
    pub before : List (List ℕ)
    pub behind : List (List ℕ)
    pub packets : (contents k (front + limit) tape).packets ≡ before ++ behind
    -- it is what the walk from the start holds behind those before it, and its offset is where their tape ends
    pub mark : m ≡ reached k limit far (start_at start) before
    pub place : m.offset ≡ length (tape_of k before)
    -- reading on from there gives those behind it
    pub ahead : read_from k (front + limit) tape m.offset ≡ holding tape behind
    -- "the same packets, refusals and end record": the walk from the start is, behind that point, the walk from the mark
    pub walks : walk k limit far (start_at start) (before ++ behind) ≡ walk k limit far (start_at start) before ++ walk k limit far m behind
    pub ends : reached k limit far (start_at start) (before ++ behind) ≡ reached k limit far m behind
    -- replay steps from the start, behind that point, and replay steps from the mark, each into a room for the longest plain packet, show it
    pub from_start : (room : List ℕ) → limit ≤ length room → (n : ℕ)
        → ShowsTo (reached k limit far m behind) n (walk k limit far m behind)
        (drop (length before) (replay k limit far (length before + (length behind + n)) (held start room) tape 1))
    pub from_mark : (room : List ℕ) → limit ≤ length room → (n : ℕ)
        → ShowsTo (reached k limit far m behind) n (walk k limit far m behind)
        (replay k limit far (length behind + n) (held m.link room) tape m.offset)

  -- where a check says yes to the octets of a list, each mark of them is read, stands behind as many opened packets as its number says, and
  -- the walk may be taken up there
  unfoldable pub OpensOn : Type 0
  OpensOn =
      (start : Link) (tape marks : List ℕ) → Sized start → Octets tape → length tape < 2 ^ 64 → (value_of unchecked (checked k limit far start tape marks)).yes ≡ true
      → (i : ℕ) → mark_length * i < length marks
      → (m : Mark) × (mark_read (mark_at i marks) ≡ Ok m) × (m.opened ≡ every * suc i) × Resumes start tape m
