-- Replay of a tape, in the order and words of 02, M-109, in both modes. `k` is the largest number of groups, `limit` the longest plain
-- packet, `far` the farthest distance that is opened.
use Rattle.std.specs.Prelude.{◌≡◌, true, List, [], ◌∷◌, ◌++◌, ℕ, zero, suc, ◌+◌, length, replicate}
use Rattle.answer.specs.Answer.{done, not_record, pick}
use Rattle.mppe.specs.declared.Link.{Link}
use Rattle.mppe.specs.Link.{front, well_formed, Result, refusal, open_result}
use Rattle.tape.specs.declared.Replayed.{Replayed}
use Rattle.tape.specs.Tape.{Read, on_packet, record_size, tape_of, Writable, read_at}

-- what a step gives: the outcome and the lent room after it, and the offset
pub record Step : Type 0 where
  pub result : Result
  pub offset : ℕ

abbrev pub step_of : Result → ℕ → Step
step_of r offset = record { result = r; offset = offset }

-- what the code hands back of it
abbrev pub replayed : Step → Replayed
replayed s = record { outcome = s.result.outcome; offset = s.offset }

-- a record, and a room that packets are opened into
pub record Held : Type 0 where
  pub link : Link
  pub room : List ℕ

abbrev pub held : Link → List ℕ → Held
held link room = record { link = link; room = room }

-- both as a call leaves them
abbrev pub held_by : Result → Held
held_by r = held r.outcome.link r.buffer

-- a step at the end: "0, no packet and the same offset"
abbrev pub at_end : Held → ℕ → Step
at_end h offset = step_of (refusal done h.link h.room) offset

-- what is held after packets are fed in turn into the same room
unfoldable pub held_after : (limit far : ℕ) → Held → List (List ℕ) → Held
held_after limit far h [] = h
held_after limit far h (p ∷ ps) = held_after limit far (held_by (open_result limit far h.link p h.room)) ps

module _ (k limit far : ℕ) where
  -- "A replay step answers 7, or what the read answers if that gives no packet, or else what open answers, then always with the offset
  -- after the packet". Without a packet record and room stay; a 7, which comes before the tape is looked at, has offset 0.
  unfoldable pub replay_step : Held → (tape : List ℕ) (offset : ℕ) → Step
  replay_step h tape offset =
      let r : Read = read_at k (front + limit) tape offset in
      pick (well_formed h.link)
      (on_packet r.packet
      (step_of (open_result limit far h.link r.packet h.room) r.offset)
      (step_of (refusal r.answer h.link h.room) r.offset))
      (step_of (refusal not_record h.link h.room) 0)

  -- steps, each with the record, the room and the offset that the last one left
  unfoldable pub replay : (n : ℕ) → Held → (tape : List ℕ) (offset : ℕ) → List Step
  replay zero h tape offset = []
  replay (suc n) h tape offset =
      let s : Step = replay_step h tape offset in
      s ∷ replay n (held_by s.result) tape s.offset

  -- "feeding the packets in turn into the same room": what open gives for each, with the offset after its record
  unfoldable pub fed : Held → (offset : ℕ) → List (List ℕ) → List Step
  fed h offset [] = []
  fed h offset (p ∷ ps) =
      let r : Result = open_result limit far h.link p h.room in
      let after : ℕ = offset + record_size k (length p) in
      step_of r after ∷ fed (held_by r) after ps

  -- "steps from 1 to the end equal feeding the packets in turn into the same room", and every further step finds the end
  unfoldable pub Replays : Type 0
  Replays =
      (ps : List (List ℕ)) → Writable (front + limit) ps → (h : Held) → well_formed h.link ≡ true → (n : ℕ)
      → replay (length ps + n) h (tape_of k ps) 1 ≡ fed h 1 ps ++ replicate n (at_end (held_after limit far h ps) (length (tape_of k ps)))
