-- Larger limits, proved: `reads_as_before`, `tapes_as_before`, `writes_as_before` and `replays_as_before` are the claims.
use Rattle.std.specs.Prelude.{◌≡◌, Bool, eqb, ltb, length, drop}
use Rattle.std.proofs.Math.Path.{refl}
use Rattle.std.proofs.Common.{sym, ◌∙◌, inl, inr, arith, lit≤, length-take, ltb-true, ltb-false}
use Rattle.std.proofs.Math.Bool.{true, false}
use mathlib.Core.List.{List, [], ◌∷◌}
use Prim.Native.Nat.{ℕ, zero, suc, ◌+◌, ◌-◌, ◌^◌, ◌<◌, ◌≤◌}
use Rattle.answer.specs.Answer.{done, shape, outside, first_of, on_done, pick}
use Rattle.answer.specs.Laws.{clear, within, outside_larger}
use Rattle.mppe.specs.Link.{front, longest_plain, farthest}
use Rattle.mppe.proofs.Larger.{open_larger}
use Rattle.tape.specs.Tape.{shortest_packet, longest_packet, most_groups, groups, with_low, length_in, Read, reading, record_size, record_of, records_of, tape_of, write_code, write_answer, write_out, place_rows, length_at, packet_at, record_rows, record_read, read_at, on_packet, Writable, read_on, contents}
use Rattle.tape.specs.Replay.{replay_step}
use Rattle.tape.proofs.Laws.{Split, split, groups_one, groups_more, length_one, length_more}
use Rattle.tape.specs.Larger.{groups_before, plain_before, Carried, NoFewer, NoShorter, ReadsAsBefore, TapesAsBefore, WritesAsBefore, ReplaysAsBefore}

-- more groups change no length that is written in fewer ..
groups_before_lem : (k k' n : ℕ) → 0 < n → n < 128 ^ k → k ≤ k' → groups k' n ≡ groups k n
groups_before_lem zero k' n some h more = absurd (omega arith)
groups_before_lem (suc k) zero n some h more = absurd (omega arith)
groups_before_lem (suc k) (suc k') n some h more = by (split n) (λ high. groups_before_lem k k' high)
  where
    by : Split n → ((high : ℕ) → 0 < high → high < 128 ^ k → k ≤ k' → groups k' high ≡ groups k high) → groups (suc k') n ≡ groups (suc k) n
    by (inl small) ih = groups_one k' n small ∙ sym (groups_one k n small)
    by (inr (low, high, l, a, e)) ih =
        rw (e, groups_more k' low high l a, groups_more k low high l a, ih high a (omega arith) (omega arith))

-- .. and none that is read in fewer
length_before : (k k' : ℕ) (l : List ℕ) → k ≤ k' → 0 < length_in k l → length_in k' l ≡ length_in k l
length_before zero k' l more some = unfold length_in in absurd (omega arith)
length_before (suc k) zero l more some = absurd (omega arith)
length_before (suc k) (suc k') [] more some = unfold length_in in refl
length_before (suc k) (suc k') (g ∷ l) more some = by (ltb g 128) refl (length_before k k' l (omega arith))
  where
    kept : (h h' : ℕ) → 0 < with_low (g - 128) h → (0 < h → h' ≡ h) → with_low (g - 128) h' ≡ with_low (g - 128) h
    kept zero h' some same = absurd (omega arith)
    kept (suc h) h' some same = rw (same (omega arith))

    by : (t : Bool) → ltb g 128 ≡ t → (0 < length_in k l → length_in k' l ≡ length_in k l) → length_in (suc k') (g ∷ l) ≡ length_in (suc k) (g ∷ l)
    by true e ih = let h = ltb-true g 128 e in length_one k' g l h ∙ sym (length_one k g l h)
    by false e ih =
        let h = ltb-false g 128 e in
        rw (length_more k' g l h, length_more k g l h) (kept (length_in k l) (length_in k' l) (rw (length_more k g l h) at some) ih)

module _ (k most k' most' : ℕ) (fits : Carried k most) (more : NoFewer k k') (larger : NoShorter most most') where
  -- a length that was carried has the same groups
  same_groups : (n : ℕ) → outside shortest_packet most n ≡ false → groups k' n ≡ groups k n
  same_groups n carried =
      let (low, high) = within shortest_packet most n carried in
      groups_before_lem k k' n (omega arith) (omega arith) more

  same_outside : (n : ℕ) → outside shortest_packet most n ≡ false → outside shortest_packet most' n ≡ outside shortest_packet most n
  same_outside n carried = outside_larger shortest_packet most most' n (within shortest_packet most n carried).1 larger

  -- a record that was read
  record_before : (tape : List ℕ) (o : ℕ) → first_of (record_rows k most tape o) ≡ done → record_read k' most' tape o ≡ record_read k most tape o
  unfolding record_read
  record_before tape o e =
      let (carried, _) = clear shape (record_rows k most tape o) refl e in
      let n : ℕ = length_at k tape o in
      let low = (within shortest_packet most n carried).0 in
      let same : length_at k' tape o ≡ n = length_before k k' (drop o tape) more (omega arith) in
      rw (same, same_groups n carried, same_outside n carried)

  -- "Every tape that read without a refusal reads as before."
  pub reads_as_before : ReadsAsBefore k most k' most'
  unfolding ReadsAsBefore read_at record_read
  reads_as_before tape o e = by (first_of (place_rows tape o)) (eqb o (length tape)) (first_of (record_rows k most tape o)) refl e
    where
      by : (c : ℕ) (t : Bool) (d : ℕ) → first_of (record_rows k most tape o) ≡ d
          → (on_done c (pick t (reading done [] o) (on_done d (reading done (packet_at k tape o) (o + record_size k (length_at k tape o))) (reading d [] o)))
          (reading c [] 0)).answer ≡ done
          → on_done c (pick t (reading done [] o) (record_read k' most' tape o)) (reading c [] 0)
          ≡ on_done c (pick t (reading done [] o) (record_read k most tape o)) (reading c [] 0)
      by zero true d same e = refl
      by zero false zero same e = record_before tape o same
      by zero false (suc d) same e = absurd (omega arith)
      by (suc c) t d same e = refl

  -- what a read gives: a packet only where it is no refusal, and none above the limit
  abbrev Given : Read → Type 0
  Given r = (on_packet r.packet r.answer done ≡ done) × (length r.packet ≤ most)

  read_gives : (tape : List ℕ) (o : ℕ) → Given (read_at k most tape o)
  unfolding read_at record_read
  read_gives tape o = by (first_of (place_rows tape o)) (eqb o (length tape)) (first_of (record_rows k most tape o)) refl
    where
      done_with : (p : List ℕ) → on_packet p done done ≡ done
      done_with [] = refl
      done_with (x ∷ xs) = refl

      by : (c : ℕ) (t : Bool) (d : ℕ) → first_of (record_rows k most tape o) ≡ d
          → Given (on_done c (pick t (reading done [] o) (on_done d (reading done (packet_at k tape o) (o + record_size k (length_at k tape o))) (reading d [] o))) (reading c [] 0))
      by zero true d same = (refl, omega arith)
      by zero false zero same =
          let high = (within shortest_packet most (length_at k tape o) (clear shape (record_rows k most tape o) refl same).0).1 in
          let size = length-take (length_at k tape o) (drop (o + length (groups k (length_at k tape o))) tape) in
          (done_with (packet_at k tape o), omega (arith, size, high))
      by zero false (suc d) same = (refl, omega arith)
      by (suc c) t d same = (refl, omega arith)

  reads_on : (n : ℕ) (tape : List ℕ) (o : ℕ) → (read_on k most n tape o).answer ≡ done → read_on k' most' n tape o ≡ read_on k most n tape o
  unfolding read_on ReadsAsBefore
  reads_on zero tape o e = rw (reads_as_before tape o e)
  reads_on (suc n) tape o e = by (read_at k most tape o).packet refl (reads_on n tape (read_at k most tape o).offset)
    where
      by : (p : List ℕ) → (read_at k most tape o).packet ≡ p
          → ((read_on k most n tape (read_at k most tape o).offset).answer ≡ done
          → read_on k' most' n tape (read_at k most tape o).offset ≡ read_on k most n tape (read_at k most tape o).offset)
          → read_on k' most' (suc n) tape o ≡ read_on k most (suc n) tape o
      by [] none ih = rw (reads_as_before tape o (rw none at e), none)
      by (x ∷ xs) some ih =
          let gives = (read_gives tape o).0 in
          rw (reads_as_before tape o (rw some at gives), some, ih (rw some at e))

  pub tapes_as_before : TapesAsBefore k most k' most'
  unfolding TapesAsBefore contents
  tapes_as_before tape e = reads_on (length tape) tape 1 e

  -- what could be written is written as before
  same_records : (ps : List (List ℕ)) → Writable most ps → records_of k' ps ≡ records_of k ps
  unfolding records_of record_of Writable
  same_records [] all = refl
  same_records (p ∷ ps) (carried, all) = rw (same_groups (length p) carried, same_records ps all)

  same_written : (packet out : List ℕ) → outside shortest_packet most (length packet) ≡ false
      → (write_answer k' most' packet out ≡ write_answer k most packet out) × (write_out k' most' packet out ≡ write_out k most packet out)
  unfolding write_answer write_out write_code record_of
  same_written packet out carried = rw (same_outside (length packet) carried, same_groups (length packet) carried) (refl, refl)

  pub writes_as_before : WritesAsBefore k most k' most'
  unfolding WritesAsBefore tape_of
  writes_as_before = (same_written, λ ps all. rw (same_records ps all))

-- a step opens what it reads, and open leaves a packet that was carried as it was
pub replays_as_before : (k limit k' limit' far : ℕ) → front + limit < 128 ^ k → k ≤ k' → limit ≤ limit' → ReplaysAsBefore k limit k' limit' far
unfolding ReplaysAsBefore ReadsAsBefore replay_step
replays_as_before k limit k' limit' far fits more larger h tape o e =
    let most : ℕ = front + limit in
    rw (
      reads_as_before k most k' (front + limit') fits more (omega arith) tape o e,
      open_larger limit limit' larger far h.link (read_at k most tape o).packet h.room (read_gives k most k' (front + limit') fits more (omega arith) tape o).1,
    )

-- from the limits before to those in force
pub reads_as_before_base : ReadsAsBefore groups_before (front + plain_before) most_groups longest_packet
reads_as_before_base = reads_as_before groups_before (front + plain_before) most_groups longest_packet (omega arith) (lit≤ tt) (lit≤ tt)

pub tapes_as_before_base : TapesAsBefore groups_before (front + plain_before) most_groups longest_packet
tapes_as_before_base = tapes_as_before groups_before (front + plain_before) most_groups longest_packet (omega arith) (lit≤ tt) (lit≤ tt)

pub writes_as_before_base : WritesAsBefore groups_before (front + plain_before) most_groups longest_packet
writes_as_before_base = writes_as_before groups_before (front + plain_before) most_groups longest_packet (omega arith) (lit≤ tt) (lit≤ tt)

pub replays_as_before_base : ReplaysAsBefore groups_before plain_before most_groups longest_plain farthest
replays_as_before_base = replays_as_before groups_before plain_before most_groups longest_plain farthest (omega arith) (lit≤ tt) (lit≤ tt)
