-- A run that meets the schedule of stateful modems, for every strength and start key: a packet is lost, the next one answers 11, a
-- Reset-Request ends the waiting, a packet with A is lost, and the count wraps. What the claim says of it.
use Rattle.std.specs.Prelude.{◌≡◌, Bool, ◌&&◌, ◌||◌, List, [], ◌∷◌, map, eqb, length, replicate}
use Rattle.std.proofs.Math.Path.{refl, ap}
use Rattle.std.proofs.Common.{◌∙◌, suc-ne-zero, ne_eqb}
use Rattle.std.proofs.Math.Bool.{true, false}
use Prim.Native.Nat.{ℕ, zero, suc, ◌+◌, ◌-◌, ◌%◌, ◌<◌, ◌≤◌}
use Rattle.std.proofs.Math.Nat.{add-zero}
use native.Mathlib.Omega.{arith}
use Rattle.std.proofs.Math.Dec.{lit≤}
use Rattle.answer.specs.Answer.{done, waiting, pick}
use Rattle.mppe_keys.specs.declared.Strength.{Strength}
use Rattle.mppe_keys.specs.declared.Mode.TheVariants.{Stateful}
use Rattle.mppe.specs.declared.Link.{Link}
use Rattle.mppe.specs.Link.{longest_plain, farthest, new_link, Result}
use Rattle.mppe_runs.specs.Run.{most_lost, SealCall, OpenCall, arrival, said_code, open_run}
use Rattle.mppe_runs.specs.StatefulRun.{SendCall, seal, reset, History, Packet, first, beginning, sealed_on, packet_of, asked, onward, packets, numbered, opened, due_of, Meets, due, StatefulRun}
use Rattle.mppe_runs.proofs.Stateful.{stateful_run_base}

abbrev plain : List ℕ
plain = 0x00 ∷ 0x21 ∷ []

abbrev call : SealCall
call = record { plain = plain; room = replicate 6 0 }

-- a Reset-Request
abbrev request : List ℕ
request = 14 ∷ 0 ∷ 0 ∷ 4 ∷ []

-- four packets, a Reset-Request, and n packets more
abbrev seals : ℕ → List SendCall
seals n = replicate n (seal call)

abbrev pub sends : ℕ → List SendCall
sends n = seal call ∷ seal call ∷ seal call ∷ seal call ∷ reset request ∷ seals n

module _ (s : Strength) (start : List ℕ) where
  tail_length : (n : ℕ) (h : History) → length (packets longest_plain s start h (seals n)) ≡ n
  unfolding packets said_code
  tail_length zero h = refl
  tail_length (suc n) h = ap suc (tail_length n (onward longest_plain s start h (seal call)))

  -- of packets in a row those have A whose number ends in 0xFF, and the first where the mark is set
  tail_fresh : (n i : ℕ) (h : History) → i < n
      → (numbered s start (packets longest_plain s start h (seals n)) i).fresh ≡ (eqb ((h.number + i) % 256) 255 || (eqb i 0 && h.mark))
  unfolding packets onward said_code numbered packet_of sealed_on
  tail_fresh zero i h low = absurd (omega arith)
  tail_fresh (suc n) zero h low = rw add-zero
  tail_fresh (suc n) (suc i) h low =
      let same : h.number + suc i ≡ suc h.number + i = omega arith in
      tail_fresh n i (sealed_on s start h plain) (omega arith) ∙ rw same (none (eqb i 0))
    where
      none : (t : Bool) → (eqb ((suc h.number + i) % 256) 255 || (t && false)) ≡ (eqb ((suc h.number + i) % 256) 255 || (eqb (suc i) 0 && h.mark))
      none true = rw (ne_eqb (suc i) 0 (suc-ne-zero i))
      none false = rw (ne_eqb (suc i) 0 (suc-ne-zero i))

  tail_plain : (n i : ℕ) (h : History) → i < n → length (numbered s start (packets longest_plain s start h (seals n)) i).plain ≤ 2
  unfolding packets said_code numbered packet_of
  tail_plain zero i h low = absurd (omega arith)
  tail_plain (suc n) zero h low = lit≤ tt
  tail_plain (suc n) (suc i) h low = tail_plain n i (onward longest_plain s start h (seal call)) (omega arith)

  abbrev pub sealed : ℕ → List Packet
  sealed n = packets longest_plain s start (beginning s start) (sends n)

  -- the history when the Reset-Request is taken
  unfoldable asking : History
  asking =
      let on : History → History = λ h. sealed_on s start h plain in
      asked s start (on (on (on (on (beginning s start))))) request

  -- packets 0, 1 and 3 arrive, then 4, the first with A behind the Reset-Request, and 5; 255, which has A, is lost, so 256 waits again; then
  -- each of those that have A anew, and the one behind the last, whose count is 0 again
  abbrev arrives : List Packet → ℕ → OpenCall
  arrives ps q = arrival q (numbered s start ps q).octets (replicate 2 0)

  abbrev pub opens : List Packet → List OpenCall
  opens ps = map (arrives ps) (0 ∷ 1 ∷ 3 ∷ 4 ∷ 5 ∷ 256 ∷ 511 ∷ 2303 ∷ 4095 ∷ 4096 ∷ [])

  -- which of them have A
  behind_fresh : (n i : ℕ) → i < n → (numbered s start (sealed n) (suc (suc (suc (suc i))))).fresh ≡ (eqb ((4 + i) % 256) 255 || (eqb i 0 && true))
  unfolding packets onward said_code numbered asked sealed_on asking
  behind_fresh n i h = tail_fresh n i asking h

  behind_plain : (n i : ℕ) → i < n → length (numbered s start (sealed n) (suc (suc (suc (suc i))))).plain ≤ 2
  unfolding packets onward said_code numbered asked sealed_on asking
  behind_plain n i h = tail_plain n i asking h

  sealed_length : (n : ℕ) → length (sealed n) ≡ suc (suc (suc (suc n)))
  unfolding packets onward said_code asked sealed_on asking
  sealed_length n = ap (λ (m : ℕ). suc (suc (suc (suc m)))) (tail_length n asking)

  front_fresh : (n : ℕ)
      → ((numbered s start (sealed n) 0).fresh ≡ true) × ((numbered s start (sealed n) 1).fresh ≡ false) × ((numbered s start (sealed n) 3).fresh ≡ false)
  unfolding packets onward said_code numbered packet_of asked sealed_on
  front_fresh n = (refl, refl, refl)

  front_plain : (n : ℕ)
      → (length (numbered s start (sealed n) 0).plain ≤ 2) × (length (numbered s start (sealed n) 1).plain ≤ 2) × (length (numbered s start (sealed n) 3).plain ≤ 2)
  unfolding packets onward said_code numbered packet_of asked sealed_on
  front_plain n = (lit≤ tt, lit≤ tt, lit≤ tt)

  -- one arrival, and none, that meet the schedule
  comes : (n next q : ℕ) (was : Bool) (held : Link) (cs : List OpenCall) → q < 4 + n → next ≤ q → q - next ≤ most_lost
      → length (numbered s start (sealed n) q).plain ≤ 2
      → Meets longest_plain farthest s start (sealed n) most_lost (suc q) (opened longest_plain farthest s start (sealed n) next was q)
      (due_of longest_plain farthest s start (sealed n) next was held q (replicate 2 0)).outcome.link cs
      → Meets longest_plain farthest s start (sealed n) most_lost next was held (arrives (sealed n) q ∷ cs)
  unfolding Meets
  comes n next q was held cs there ahead near plain rest = (omega (arith, sealed_length n), omega arith, omega arith, refl, plain, rest)

  no_more : (n next : ℕ) (was : Bool) (held : Link) → Meets longest_plain farthest s start (sealed n) most_lost next was held []
  unfolding Meets
  no_more n next was held = tt

  pub meets : (n : ℕ) → 4092 < n → Meets longest_plain farthest s start (sealed n) most_lost 0 false (first s start) (opens (sealed n))
  meets n h =
      let (p0, p1, p3) = front_plain n in
      comes n 0 0 _ _ _ (omega arith) (lit≤ tt) (lit≤ tt) p0
      (comes n 1 1 _ _ _ (omega arith) (lit≤ tt) (lit≤ tt) p1
      (comes n 2 3 _ _ _ (omega arith) (lit≤ tt) (lit≤ tt) p3
      (comes n 4 4 _ _ _ (omega arith) (lit≤ tt) (lit≤ tt) (behind_plain n 0 (omega arith))
      (comes n 5 5 _ _ _ (omega arith) (lit≤ tt) (lit≤ tt) (behind_plain n 1 (omega arith))
      (comes n 6 256 _ _ _ (omega arith) (lit≤ tt) (lit≤ tt) (behind_plain n 252 (omega arith))
      (comes n 257 511 _ _ _ (omega arith) (lit≤ tt) (lit≤ tt) (behind_plain n 507 (omega arith))
      (comes n 512 2303 _ _ _ (omega arith) (lit≤ tt) (lit≤ tt) (behind_plain n 2299 (omega arith))
      (comes n 2304 4095 _ _ _ (omega arith) (lit≤ tt) (lit≤ tt) (behind_plain n 4091 (omega arith))
      (comes n 4096 4096 _ _ _ (omega arith) (lit≤ tt) (lit≤ tt) (behind_plain n 4092 h) (no_more n 4097 _ _))))))))))

  -- the numbers that are answered
  abbrev answered : Result → ℕ
  answered r = r.outcome.answer

  -- one arrival, by whether it is opened
  one : (ps : List Packet) (next : ℕ) (was : Bool) (held : Link) (q : ℕ) (octets room : List ℕ) (cs : List OpenCall) (t : Bool)
      → opened longest_plain farthest s start ps next was q ≡ t
      → map answered (due longest_plain farthest s start ps next was held (arrival q octets room ∷ cs))
      ≡ pick t done waiting ∷ map answered (due longest_plain farthest s start ps (suc q) t (due_of longest_plain farthest s start ps next was held q room).outcome.link cs)
  unfolding due due_of
  one ps next was held q octets room cs true e = rw e
  one ps next was held q octets room cs false e = rw e

  none : (ps : List Packet) (next : ℕ) (was : Bool) (held : Link) → map answered (due longest_plain farthest s start ps next was held []) ≡ []
  unfolding due
  none ps next was held = refl

  pub run_opens : (new_link s Stateful start).answer ≡ done → (n : ℕ) → 4092 < n
      → map answered (open_run longest_plain farthest (first s start) (opens (sealed n)))
      ≡ done ∷ done ∷ waiting ∷ done ∷ done ∷ waiting ∷ done ∷ done ∷ done ∷ done ∷ []
  run_opens ok n h =
      let ps : List Packet = sealed n in
      let (f0, f1, f3) = front_fresh n in
      ap (map answered) (claim ok n h)
      ∙ one ps 0 false _ 0 _ _ _ true (rw f0)
      ∙ ap (λ (e : List ℕ). done ∷ e) (one ps 1 true _ 1 _ _ _ true (rw f1)
      ∙ ap (λ (e : List ℕ). done ∷ e) (one ps 2 true _ 3 _ _ _ false (rw f3)
      ∙ ap (λ (e : List ℕ). waiting ∷ e) (one ps 4 false _ 4 _ _ _ true (rw (behind_fresh n 0 (omega arith)))
      ∙ ap (λ (e : List ℕ). done ∷ e) (one ps 5 true _ 5 _ _ _ true (rw (behind_fresh n 1 (omega arith)))
      ∙ ap (λ (e : List ℕ). done ∷ e) (one ps 6 true _ 256 _ _ _ false (rw (behind_fresh n 252 (omega arith)))
      ∙ ap (λ (e : List ℕ). waiting ∷ e) (one ps 257 false _ 511 _ _ _ true (rw (behind_fresh n 507 (omega arith)))
      ∙ ap (λ (e : List ℕ). done ∷ e) (one ps 512 true _ 2303 _ _ _ true (rw (behind_fresh n 2299 (omega arith)))
      ∙ ap (λ (e : List ℕ). done ∷ e) (one ps 2304 true _ 4095 _ _ _ true (rw (behind_fresh n 4091 (omega arith)))
      ∙ ap (λ (e : List ℕ). done ∷ e) (one ps 4096 true _ 4096 _ _ _ true (rw (behind_fresh n 4092 h))
      ∙ ap (λ (e : List ℕ). done ∷ e) (none ps 4097 true _))))))))))
    where
      claim : (new_link s Stateful start).answer ≡ done → (n : ℕ) → 4092 < n
          → open_run longest_plain farthest (first s start) (opens (sealed n)) ≡ due longest_plain farthest s start (sealed n) 0 false (first s start) (opens (sealed n))
      claim ok n h = unfold StatefulRun in (stateful_run_base s start ok (sends n) (opens (sealed n)) (meets n h)).1
