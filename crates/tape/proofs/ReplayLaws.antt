-- Replay, proved: `replays` at the end is the claim.
use Rattle.std.specs.Prelude.{◌≡◌, Bool, true, false, drop, get_or, replicate}
use Rattle.std.proofs.Math.Path.{refl, ap}
use mathlib.Core.List.{List, [], ◌∷◌, ◌++◌}
use Prim.Native.Nat.{ℕ, zero, suc, ◌+◌, ◌^◌, ◌<◌, ◌≤◌}
use Rattle.std.proofs.Common.{zero-add}
use native.Mathlib.Omega.{arith}
use Rattle.std.proofs.Math.ListN.{length, length-drop}
use Rattle.answer.specs.Answer.{not_record, pick}
use Rattle.answer.specs.Laws.{within}
use Rattle.mppe.specs.Link.{front, longest_plain, farthest, well_formed, Result, refusal, open_result}
use Rattle.mppe.proofs.Laws.{open_well}
use Rattle.tape.specs.Tape.{first_octet, shortest_packet, most_groups, Read, on_packet, read_at, record_size, record_of, records_of, tape_of, Writable}
use Rattle.tape.proofs.Laws.{on_packet_lem, past, read_end, read_record}
use Rattle.tape.specs.Replay.{step_of, Held, held_by, at_end, replay_step, replay, fed, held_after, Replays}

-- what holds of a refusal and of everything that open gives holds of a step
pub of_step : (P : Result → Type 0) (k limit far : ℕ) (h : Held) (tape : List ℕ) (o : ℕ) → ((code : ℕ) → P (refusal code h.link h.room))
    → ((packet : List ℕ) → P (open_result limit far h.link packet h.room)) → P (replay_step k limit far h tape o).result
unfolding replay_step
of_step P k limit far h tape o refused opened = by (well_formed h.link) (read_at k (front + limit) tape o).packet
  where
    r : Read
    r = read_at k (front + limit) tape o

    by : (well : Bool) (packet : List ℕ)
        → P (pick well (on_packet packet (step_of (open_result limit far h.link packet h.room) r.offset) (step_of (refusal r.answer h.link h.room) r.offset))
        (step_of (refusal not_record h.link h.room) 0)).result
    by false packet = refused not_record
    by true [] = refused r.answer
    by true (x ∷ xs) = opened (x ∷ xs)

module _ (k limit far : ℕ) (fits : front + limit < 128 ^ k) where
  -- a step at a record, and one at the end
  step_record : (h : Held) (tape : List ℕ) (o : ℕ) (p rest : List ℕ) → well_formed h.link ≡ true → get_or tape 0 0 ≡ first_octet → 1 ≤ o
      → (shortest_packet ≤ length p) × (length p ≤ front + limit) → drop o tape ≡ record_of k p ++ rest
      → replay_step k limit far h tape o ≡ step_of (open_result limit far h.link p h.room) (o + record_size k (length p))
  unfolding replay_step
  step_record h tape o p rest well first low fit e =
      rw (well, read_record k (front + limit) fits tape o p rest first low fit e) (on_packet_lem p _ _ fit.0)

  step_end : (h : Held) (tape : List ℕ) → well_formed h.link ≡ true → get_or tape 0 0 ≡ first_octet → 1 ≤ length tape
      → replay_step k limit far h tape (length tape) ≡ at_end h (length tape)
  unfolding replay_step
  step_end h tape well first some = rw (well, read_end k (front + limit) fits tape first some)

  replay_end : (n : ℕ) (h : Held) (tape : List ℕ) → well_formed h.link ≡ true → get_or tape 0 0 ≡ first_octet → 1 ≤ length tape
      → replay k limit far n h tape (length tape) ≡ replicate n (at_end h (length tape))
  unfolding replay
  replay_end zero h tape well first some = refl
  replay_end (suc n) h tape well first some = rw (step_end h tape well first some, replay_end n h tape well first some)

  -- steps from any record on
  pub replay_from : (ps : List (List ℕ)) (n : ℕ) (h : Held) (tape : List ℕ) (o : ℕ) → Writable (front + limit) ps → well_formed h.link ≡ true
      → get_or tape 0 0 ≡ first_octet → 1 ≤ o → o ≤ length tape → drop o tape ≡ records_of k ps
      → replay k limit far (length ps + n) h tape o ≡ fed k limit far h o ps ++ replicate n (at_end (held_after limit far h ps) (length tape))
  unfolding fed held_after records_of Writable replay
  replay_from [] n h tape o all well first low high e =
      let end : o ≡ length tape = omega (arith, length-drop o tape, ap (λ (l : List ℕ). length l) e) in
      rw (end, zero-add) (replay_end n h tape well first (omega arith))
  replay_from (p ∷ ps) n h tape o (fit, all) well first low high e =
      let count : suc (length ps) + n ≡ suc (length ps + n) = omega arith in
      let (on, long) = past k tape o p (records_of k ps) e in
      let r : Result = open_result limit far h.link p h.room in
      rw (
        count,
        step_record h tape o p (records_of k ps) well first low (within shortest_packet (front + limit) (length p) fit) e,
        replay_from ps n (held_by r) tape (o + record_size k (length p)) all (open_well limit far h.link p h.room well) first (omega arith) (omega arith) on,
      )

  -- "steps from 1 to the end equal feeding the packets in turn into the same room"
  pub replays : Replays k limit far
  unfolding Replays tape_of
  replays ps all h well n = replay_from ps n h (tape_of k ps) 1 all well refl (omega arith) (omega arith) refl

-- at the limits in force
pub replays_base : Replays most_groups longest_plain farthest
replays_base = replays most_groups longest_plain farthest (omega arith)
