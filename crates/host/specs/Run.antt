-- Demand 3, M-105 and the replay of M-109 for a program in C. `Demand3InC` and `AnyOrderInC` are in the words of 01, "The run of demand 3":
-- the two lists of calls, each end with a record in 295 lent octets. The history, its packets, what is asked of the line, and what is said
-- and due are those of crates/mppe_runs, Run.antt and AnyOrderRun.antt. `ReplaysInC` at the end is `Replays` of crates/tape.
use Rattle.std.specs.Prelude.{◌≡◌, true, false, List, [], ◌∷◌, ◌++◌, map, ℕ, zero, suc, ◌+◌, length, replicate}
use Rattle.answer.specs.Answer.{done}
use Rattle.mppe_keys.specs.declared.Strength.{Strength}
use Rattle.mppe.specs.declared.Link.{Link}
use Rattle.mppe.specs.Link.{longest_plain, farthest, well_formed, Result}
use Rattle.mppe_runs.specs.Run.{most_lost, SealCall, OpenCall, octets_lent, room_lent, Packet, first, beginning, packets, said, Meets, due}
use Rattle.mppe_runs.specs.AnyOrderRun.{most_ahead, most_behind, MeetsAny, due_any}
use Rattle.mppe_record.specs.Record.{strength_of, record_length, record_octets}
use Rattle.mppe_record.proofs.Laws.{Sized}
use Rattle.tape.specs.Tape.{longest_packet, most_groups, record_size, tape_of, Writable}
use Rattle.host.specs.Host.{Linked, new_link_given, linked_by, unchanged, seal_linked, open_linked, replay_linked, replay_offset}

-- "Both ends begin with one and the same record, that of a new link that answered 0": what such a call leaves in 295 lent octets
abbrev pub Begun : (bits : ℕ) (start octets : List ℕ) → Type 0
Begun bits start octets =
    (lent : List ℕ) × (length lent ≡ record_length) × (new_link_given bits false start lent ≡ record { code = done; buffer = octets })

-- "Each call gets the record that the last call at its end handed back": the octets as that call left them
unfoldable pub seals_linked : List ℕ → List SealCall → List Linked
seals_linked octets [] = []
seals_linked octets (c ∷ cs) = let r : Linked = seal_linked octets c.plain c.room in r ∷ seals_linked r.octets cs

unfoldable pub opens_linked : List ℕ → List OpenCall → List Linked
opens_linked octets [] = []
opens_linked octets (c ∷ cs) = let r : Linked = open_linked octets (octets_lent c) (room_lent c) in r ∷ opens_linked r.octets cs

-- "This is a single claim about the two lists": where the open calls meet the schedule, each seal call answers, writes and leaves in its
-- record's octets what the history says, and each open call answers, reports, writes and leaves there what the results say; every record
-- as its octets. Schedule and results come from the strength, the start key, the packets sealed and the open calls.
unfoldable pub RunInC : (schedule : Strength → List ℕ → List Packet → List OpenCall → Type 0)
    (results : Strength → List ℕ → List Packet → List OpenCall → List Result) → Type 0
RunInC schedule results =
    (bits : ℕ) (start sender receiver : List ℕ) → Begun bits start sender → Begun bits start receiver
    → (seals : List SealCall) (opens : List OpenCall)
    → let s : Strength = strength_of bits in
    let sealed : List Packet = packets longest_plain s start (beginning s start) seals in
    schedule s start sealed opens
    → (seals_linked sender seals ≡ map linked_by (said longest_plain s start (beginning s start) (first s start) seals))
    × (opens_linked receiver opens ≡ map linked_by (results s start sealed opens))

unfoldable pub Demand3InC : Type 0
Demand3InC =
    RunInC (λ s start sealed opens. Meets longest_plain farthest s start sealed most_lost 0 (first s start) opens)
    (λ s start sealed opens. due longest_plain farthest s start sealed 0 (first s start) opens)

unfoldable pub AnyOrderInC : Type 0
AnyOrderInC =
    RunInC (λ s start sealed opens. MeetsAny longest_plain farthest s start sealed most_ahead most_behind 0 (first s start) opens)
    (λ s start sealed opens. due_any longest_plain farthest s start sealed 0 (first s start) opens)

-- a replay: a step, and the offset that it answers
pub record StepInC : Type 0 where
  pub linked : Linked
  pub offset : ℕ

-- steps, each with the record's octets, the room and the offset that the last one left
unfoldable pub replay_in_c : (n : ℕ) (octets room tape : List ℕ) (offset : ℕ) → List StepInC
replay_in_c zero octets room tape offset = []
replay_in_c (suc n) octets room tape offset =
    let r : Linked = replay_linked octets tape offset room in
    let after : ℕ = replay_offset octets tape offset room in
    record { linked = r; offset = after } ∷ replay_in_c n r.octets r.buffer tape after

-- "feeding the packets in turn into the same room": calls of open, each with the offset after the packet's record
unfoldable pub fed_in_c : (octets room : List ℕ) (offset : ℕ) → List (List ℕ) → List StepInC
fed_in_c octets room offset [] = []
fed_in_c octets room offset (p ∷ ps) =
    let r : Linked = open_linked octets p room in
    let after : ℕ = offset + record_size most_groups (length p) in
    record { linked = r; offset = after } ∷ fed_in_c r.octets r.buffer after ps

-- a step at the end, with the octets and the room that those calls of open leave: "0, no packet and the same offset"
unfoldable pub end_in_c : (octets room : List ℕ) (offset : ℕ) → List (List ℕ) → StepInC
end_in_c octets room offset [] = record { linked = unchanged done octets room; offset = offset }
end_in_c octets room offset (p ∷ ps) =
    let r : Linked = open_linked octets p room in
    end_in_c r.octets r.buffer offset ps

-- "steps from 1 to the end equal feeding the packets in turn into the same room", and every further step finds the end
unfoldable pub ReplaysInC : Type 0
ReplaysInC =
    (ps : List (List ℕ)) → Writable longest_packet ps → (l : Link) → Sized l → well_formed l ≡ true → (room : List ℕ) (n : ℕ)
    → let octets : List ℕ = record_octets l in
    let tape : List ℕ = tape_of most_groups ps in
    replay_in_c (length ps + n) octets room tape 1 ≡ fed_in_c octets room 1 ps ++ replicate n (end_in_c octets room (length tape) ps)
