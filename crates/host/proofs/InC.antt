-- Demand 3, M-105 and the replay of M-109 for a program in C, proved: from the claims over records, since a list of calls on octets is the
-- list of calls on records.
use Rattle.std.specs.Prelude.{◌≡◌, refl, false, List, [], ◌∷◌, ◌++◌, map, ℕ, zero, suc, ◌+◌, length, replicate}
use Rattle.std.proofs.Common.{sym, ap, ◌∙◌}
use Rattle.std.proofs.lemmas.List.{map-append}
use Rattle.answer.specs.Answer.{done}
use Rattle.mppe_keys.specs.declared.Strength.{Strength}
use Rattle.mppe_keys.specs.declared.Mode.TheVariants.{Stateless}
use Rattle.mppe_keys.specs.Keys.{bits_of}
use Rattle.mppe.specs.declared.Link.{Link}
use Rattle.mppe.specs.Link.{Result, longest_plain, farthest, new_link, new_link_code, seal_result, open_result}
use Rattle.mppe_runs.specs.Run.{SealCall, OpenCall, octets_lent, room_lent, Packet, first, beginning, seal_run, open_run, packets, said, Demand3}
use Rattle.mppe_runs.specs.AnyOrderRun.{AnyOrder}
use Rattle.mppe_runs.proofs.Demand3.{demand_3_base}
use Rattle.mppe_runs.proofs.AnyOrder.{any_order_base}
use Rattle.mppe_record.specs.Record.{strength_of, record_length, record_octets}
use Rattle.mppe_record.proofs.Laws.{bits_back, bits_known, Sized, record_octets_length, reads_back, new_sized, seal_sized, open_sized}
use Rattle.tape.specs.Tape.{most_groups, record_size, tape_of}
use Rattle.tape.specs.Replay.{Step, step_of, held, at_end, held_after, replay, fed, Replays}
use Rattle.tape.proofs.ReplayLaws.{of_step, replays_base}
use Rattle.host.specs.Host.{Given, Linked, new_link_given, linked_by, linked, seal_linked, open_linked, step_with, replay_linked, replay_offset}
use Rattle.host.specs.Laws.{linked_on, given_fits, new_whole}
use Rattle.host.specs.Run.{Begun, seals_linked, opens_linked, RunInC, Demand3InC, AnyOrderInC, StepInC, replay_in_c, fed_in_c, end_in_c, ReplaysInC}

-- a call and the calls behind it: where those agree, so do all
module _ (call : Link → Result) (behind_in_c : List ℕ → List Linked) (behind : Link → List Result) where
  one_more : (l : Link) (out : List ℕ) → Sized l → Sized (call l).outcome.link
      → ((l' : Link) → Sized l' → behind_in_c (record_octets l') ≡ map linked_by (behind l'))
      → (let r : Linked = linked call (record_octets l) out in r ∷ behind_in_c r.octets)
      ≡ map linked_by (let r : Result = call l in r ∷ behind r.outcome.link)
  one_more l out h next agree = rw (linked_on call l out h) (ap (λ (rs : List Linked). linked_by (call l) ∷ rs) (agree (call l).outcome.link next))

-- so a list of calls from the octets of a record on is the list of calls from that record on, every record as its octets
pub seals_linked_lem : (cs : List SealCall) (l : Link) → Sized l → seals_linked (record_octets l) cs ≡ map linked_by (seal_run longest_plain l cs)
unfolding seals_linked seal_run seal_linked
seals_linked_lem [] l h = refl
seals_linked_lem (c ∷ cs) l h =
    one_more (λ l. seal_result longest_plain l c.plain c.room) (λ o. seals_linked o cs) (λ l. seal_run longest_plain l cs) l c.room h
    (seal_sized longest_plain l c.plain c.room h) (seals_linked_lem cs)

pub opens_linked_lem : (cs : List OpenCall) (l : Link) → Sized l → opens_linked (record_octets l) cs ≡ map linked_by (open_run longest_plain farthest l cs)
unfolding opens_linked open_run open_linked
opens_linked_lem [] l h = refl
opens_linked_lem (c ∷ cs) l h =
    one_more (λ l. open_result longest_plain farthest l (octets_lent c) (room_lent c)) (λ o. opens_linked o cs) (λ l. open_run longest_plain farthest l cs) l (room_lent c) h
    (open_sized longest_plain farthest l (octets_lent c) (room_lent c) h) (opens_linked_lem cs)

-- a new link's number
new_code : (s : Strength) (start : List ℕ) → (new_link s Stateless start).answer ≡ done → new_link_code s start ≡ done
unfolding new_link
new_code s start ok = ok

-- every strength and start key that make a new link begin such a run, in any 295 lent octets
pub begins : (s : Strength) (start lent : List ℕ) → (new_link s Stateless start).answer ≡ done → length lent ≡ record_length
    → Begun (bits_of s) start (record_octets (first s start))
unfolding new_link_given
begins s start lent ok h =
    let all : length (record_octets (first s start)) ≡ length lent = record_octets_length (first s start) (new_sized s Stateless start) ∙ sym h in
    let code : new_link_code s start ≡ done = new_code s start ok in
    (lent, h, rw (bits_known s, bits_back s, code) (given_fits (record_octets (first s start)) lent all))

-- and what they begin with
begun_is : (bits : ℕ) (start octets : List ℕ) → Begun bits start octets
    → ((new_link (strength_of bits) Stateless start).answer ≡ done) × (octets ≡ record_octets (first (strength_of bits) start))
begun_is bits start octets (lent, long, e) =
    let (ok, whole) = new_whole bits false start lent long (ap (λ (g : Given). g.code) e) in
    (ok, sym (ap (λ (g : Given). g.buffer) e) ∙ whole)

-- so a claim about both lists of calls on records is one about both lists of calls on octets
in_c : (schedule : Strength → List ℕ → List Packet → List OpenCall → Type 0) (results : Strength → List ℕ → List Packet → List OpenCall → List Result)
    → ((s : Strength) (start : List ℕ) → (new_link s Stateless start).answer ≡ done → (seals : List SealCall) (opens : List OpenCall)
    → schedule s start (packets longest_plain s start (beginning s start) seals) opens
    → (seal_run longest_plain (first s start) seals ≡ said longest_plain s start (beginning s start) (first s start) seals)
    × (open_run longest_plain farthest (first s start) opens ≡ results s start (packets longest_plain s start (beginning s start) seals) opens))
    → RunInC schedule results
unfolding RunInC
in_c schedule results claim bits start sender receiver sent received seals opens line =
    let s : Strength = strength_of bits in
    let (ok, sender-is) = begun_is bits start sender sent in
    let (_, receiver-is) = begun_is bits start receiver received in
    let (said-is, results-are) = claim s start ok seals opens line in
    let sized : Sized (first s start) = new_sized s Stateless start in
    rw (sender-is, receiver-is)
    (seals_linked_lem seals (first s start) sized ∙ ap (map linked_by) said-is, opens_linked_lem opens (first s start) sized ∙ ap (map linked_by) results-are)

pub demand_3_in_c : Demand3InC
unfolding Demand3InC Demand3
demand_3_in_c = in_c _ _ demand_3_base

pub any_order_in_c : AnyOrderInC
unfolding AnyOrderInC AnyOrder
any_order_in_c = in_c _ _ any_order_base

-- a step of a replay, with its record as octets
abbrev step_in_c : Step → StepInC
step_in_c s = record { linked = linked_by s.result; offset = s.offset }

-- so steps from the octets of a record on are the steps from that record on ..
step_sized : (l : Link) (room tape : List ℕ) (o : ℕ) → Sized l → Sized (step_with l tape o room).result.outcome.link
step_sized l room tape o h =
    of_step (λ r. Sized r.outcome.link) most_groups longest_plain farthest (held l room) tape o (λ code. h)
    (λ packet. open_sized longest_plain farthest l packet room h)

step_on : (l : Link) (room tape : List ℕ) (o : ℕ) → Sized l
    → (replay_linked (record_octets l) tape o room ≡ linked_by (step_with l tape o room).result)
    × (replay_offset (record_octets l) tape o room ≡ (step_with l tape o room).offset)
unfolding replay_linked replay_offset
step_on l room tape o h = (linked_on (λ l. (step_with l tape o room).result) l room h, rw (reads_back l h))

replay_linked_lem : (n : ℕ) (l : Link) (room tape : List ℕ) (o : ℕ) → Sized l
    → replay_in_c n (record_octets l) room tape o ≡ map step_in_c (replay most_groups longest_plain farthest n (held l room) tape o)
unfolding replay_in_c replay
replay_linked_lem zero l room tape o h = refl
replay_linked_lem (suc n) l room tape o h =
    let s : Step = step_with l tape o room in
    let (result, offset) = step_on l room tape o h in
    rw (result, offset)
    (ap (λ (rest : List StepInC). step_in_c s ∷ rest)
    (replay_linked_lem n s.result.outcome.link s.result.buffer tape s.offset (step_sized l room tape o h)))

-- .. calls of open in turn from the octets of a record on those from that record on, and so is what they leave
fed_linked : (ps : List (List ℕ)) (l : Link) (room : List ℕ) (o : ℕ) → Sized l
    → fed_in_c (record_octets l) room o ps ≡ map step_in_c (fed most_groups longest_plain farthest (held l room) o ps)
unfolding fed_in_c fed open_linked
fed_linked [] l room o h = refl
fed_linked (p ∷ ps) l room o h =
    let r : Result = open_result longest_plain farthest l p room in
    let after : ℕ = o + record_size most_groups (length p) in
    rw (linked_on (λ l. open_result longest_plain farthest l p room) l room h)
    (ap (λ (rest : List StepInC). step_in_c (step_of r after) ∷ rest)
    (fed_linked ps r.outcome.link r.buffer after (open_sized longest_plain farthest l p room h)))

end_linked : (ps : List (List ℕ)) (l : Link) (room : List ℕ) (o : ℕ) → Sized l
    → end_in_c (record_octets l) room o ps ≡ step_in_c (at_end (held_after longest_plain farthest (held l room) ps) o)
unfolding end_in_c held_after open_linked
end_linked [] l room o h = refl
end_linked (p ∷ ps) l room o h =
    let r : Result = open_result longest_plain farthest l p room in
    rw (linked_on (λ l. open_result longest_plain farthest l p room) l room h)
    (end_linked ps r.outcome.link r.buffer o (open_sized longest_plain farthest l p room h))

ends_linked : (n : ℕ) (s : Step) → map step_in_c (replicate n s) ≡ replicate n (step_in_c s)
ends_linked zero s = refl
ends_linked (suc n) s = ap (λ (rest : List StepInC). step_in_c s ∷ rest) (ends_linked n s)

pub replays_in_c : ReplaysInC
unfolding ReplaysInC Replays
replays_in_c ps all l h well room n =
    let tape : List ℕ = tape_of most_groups ps in
    let end : Step = at_end (held_after longest_plain farthest (held l room) ps) (length tape) in
    replay_linked_lem (length ps + n) l room tape 1 h ∙ ap (map step_in_c) (replays_base ps all (held l room) well n)
    ∙ map-append step_in_c (fed most_groups longest_plain farthest (held l room) 1 ps) (replicate n end)
    ∙ ap (λ (front : List StepInC). front ++ map step_in_c (replicate n end)) (sym (fed_linked ps l room 1 h))
    ∙ ap (λ (rest : List StepInC). fed_in_c (record_octets l) room 1 ps ++ rest)
    (ends_linked n end ∙ ap (λ (s : StepInC). replicate n s) (sym (end_linked ps l room (length tape) h)))
