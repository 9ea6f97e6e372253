-- Demand 3, proved: for every limit of a plain packet, every farthest distance below the number of counts, and every number of packets
-- lost in a row below it. It follows from M-105: numbers that rise are one order of many.
use Rattle.std.specs.Prelude.{◌≡◌, refl, false, List, [], ◌∷◌, ℕ, suc, ◌-◌, ◌<◌, ltb, length}
use Rattle.std.proofs.Common.{ap, ◌∙◌, arith, lit<, le-ltb}
use Rattle.octets.specs.Octets.{written}
use Rattle.mppe_keys.specs.declared.Strength.{Strength}
use Rattle.mppe.specs.declared.Link.{Link}
use Rattle.mppe.specs.Link.{longest_plain, counts, farthest, Result, finished, refusal, open_code}
use Rattle.mppe_runs.specs.Run.{most_lost, OpenCall, arrival, other, Packet, beginning, first, packets, numbered, Meets, due, Demand3}
use Rattle.mppe_runs.specs.AnyOrderRun.{MeetsAny, due_any, AnyOrder}
use Rattle.mppe_runs.proofs.AnyOrder.{any_order}

-- a line that demand 3 allows is one that M-105 allows with none behind, and the same is due on it
rising : (limit far : ℕ) (s : Strength) (start : List ℕ) (ps : List Packet) (most next : ℕ) (held : Link) (cs : List OpenCall)
    → Meets limit far s start ps most next held cs
    → MeetsAny limit far s start ps (suc most) 0 next held cs × (due_any limit far s start ps next held cs ≡ due limit far s start ps next held cs)
unfolding Meets MeetsAny due due_any
rising limit far s start ps most next held [] line = (tt, refl)
rising limit far s start ps most next held (arrival q octets room ∷ cs) (known, low, near, same, fits, rest) =
    let p : Packet = numbered s start ps q in
    let ahead : ltb q next ≡ false = le-ltb q next low in
    let (line, later) = rising limit far s start ps most (suc q) p.link cs rest in
    rw ahead
    ((known, omega arith, omega arith, same, (λ _. fits), line), ap (λ (rs : List Result). finished (suc (q - next)) p.link (written p.plain room) ∷ rs) later)
rising limit far s start ps most next held (other octets room ∷ cs) (not0, rest) =
    let (line, later) = rising limit far s start ps most next held cs rest in
    ((not0, line), ap (λ (rs : List Result). refusal (open_code limit far held octets (length room)) held room ∷ rs) later)

-- demand 3 for every limit, every farthest distance and every number lost in a row below it
pub demand_3 : (limit far most : ℕ) → far < counts → most < far → Demand3 limit far most
unfolding Demand3 AnyOrder
demand_3 limit far most bound below s start ok seals opens line =
    let (line-any, same) = rising limit far s start (packets limit s start (beginning s start) seals) most 0 (first s start) opens line in
    let (said, due) = any_order limit far (suc most) 0 (omega arith) (omega arith) s start ok seals opens line-any in
    (said, due ∙ same)

-- demand 3 at the users' limits
pub demand_3_base : Demand3 longest_plain farthest most_lost
demand_3_base = demand_3 longest_plain farthest most_lost (lit< tt) (lit< tt)
