-- The run of M-105, in the order and words of 02: "Number the sender's packets from 0 in stateless mode; let them arrive unaltered in any
-- order, repeated or lost, with room lent. If each arriving packet is at most 2,048 ahead of the newest opened (start at -1) and at most
-- 2,047 behind it, then every one ahead opens to what was sealed, and every other is refused with 6 or 10 and changes nothing." The calls,
-- the sender's history and its packets are those of Run.antt. `AnyOrder` at the end is the claim.
use Rattle.std.specs.Prelude.{◌≡◌, ◌≢◌, List, [], ◌∷◌, ℕ, suc, ◌+◌, ◌-◌, ◌<◌, ◌≤◌, eqb, ltb, length}
use Rattle.answer.specs.Answer.{done, repeat, late, pick}
use Rattle.octets.specs.Octets.{written}
use Rattle.mppe_keys.specs.declared.Strength.{Strength}
use Rattle.mppe_keys.specs.declared.Mode.TheVariants.{Stateless}
use Rattle.mppe.specs.declared.Link.{Link}
use Rattle.mppe.specs.Link.{counts, farthest, new_link, Result, finished, refusal, open_code}
use Rattle.mppe_runs.specs.Run.{SealCall, OpenCall, arrival, other, Packet, seal_run, open_run, first, beginning, packets, said, numbered}

-- "at most 2,048 ahead of the newest opened": the farthest distance that is opened
abbrev pub most_ahead : ℕ
most_ahead = farthest

-- "and at most 2,047 behind it": the counts that are not ahead, but for that of the newest itself
abbrev pub most_behind : ℕ
most_behind = counts - farthest - 1

-- the limits ahead and behind leave one of the counts for the newest opened
abbrev pub LeavesNewest : (far behind : ℕ) → Type 0
LeavesNewest far behind = far + behind < counts

-- Of packet q. `next` is one more than the number of the newest opened, at first 0; `held` is the record of the newest opened, or the new
-- link. "every one ahead opens to what was sealed", reports how far ahead it is, and leaves the sender's record; "every other is refused
-- with 6 or 10 and changes nothing": 6 for the newest itself, 10 for one behind it.
abbrev pub due_to : (next : ℕ) (held : Link) (q : ℕ) (p : Packet) (room : List ℕ) → Result
due_to next held q p room =
    pick (ltb q next) (refusal (pick (eqb (suc q) next) repeat late) held room) (finished (suc (q - next)) p.link (written p.plain room))

-- one more than the newest opened after it
abbrev pub next_after : (next q : ℕ) → ℕ
next_after next q = pick (ltb q next) next (suc q)

-- `limit` is the longest plain packet, `far` the farthest distance that is opened
module _ (limit far : ℕ) where
  module _ (s : Strength) (start : List ℕ) (sealed : List Packet) where
    -- What is asked of the line: each arrival is of a packet that was sealed, at most `ahead` ahead of the newest opened and at most
    -- `behind` behind it, and "unaltered"; one ahead of it is lent room for its plain packet, and no other needs any. Every other call in
    -- the list is one that the table refuses, as in demand 3.
    unfoldable pub MeetsAny : (ahead behind next : ℕ) → Link → List OpenCall → Type 0
    MeetsAny ahead behind next held [] = Unit {0}
    MeetsAny ahead behind next held (arrival q octets room ∷ cs) =
        let p : Packet = numbered s start sealed q in
        (q < length sealed) × (suc q ≤ next + ahead) × (next ≤ suc q + behind) × (octets ≡ p.octets)
        × (next ≤ q → length p.plain ≤ length room)
        × MeetsAny ahead behind (next_after next q) (due_to next held q p room).outcome.link cs
    MeetsAny ahead behind next held (other octets room ∷ cs) =
        (open_code limit far held octets (length room) ≢ done) × MeetsAny ahead behind next held cs

    -- what is due to each call
    unfoldable pub due_any : (next : ℕ) → Link → List OpenCall → List Result
    due_any next held [] = []
    due_any next held (arrival q octets room ∷ cs) =
        let r : Result = due_to next held q (numbered s start sealed q) room in
        r ∷ due_any (next_after next q) r.outcome.link cs
    due_any next held (other octets room ∷ cs) = refusal (open_code limit far held octets (length room)) held room ∷ due_any next held cs

  -- one claim about the two lists of calls
  unfoldable pub AnyOrder : (ahead behind : ℕ) → Type 0
  AnyOrder ahead behind =
      (s : Strength) (start : List ℕ) → (new_link s Stateless start).answer ≡ done → (seals : List SealCall) (opens : List OpenCall)
      → MeetsAny s start (packets limit s start (beginning s start) seals) ahead behind 0 (first s start) opens
      → (seal_run limit (first s start) seals ≡ said limit s start (beginning s start) (first s start) seals)
      × (open_run limit far (first s start) opens ≡ due_any s start (packets limit s start (beginning s start) seals) 0 (first s start) opens)
